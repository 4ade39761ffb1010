-- The messages of those faults of trees that are types of their own, as `WrongEntityArgument`; the
-- messages of the other kinds stand in `Messages`.
use Rattle.std.specs.Prelude.{ℕ, List, [], ◌∷◌, ◌++◌, map, codes}
use Rattle.either.specs.declared.Either.{Either}
use Rattle.either.specs.declared.Either.TheVariants.{Left, Right}
use Rattle.cedar_expressions.specs.declared.entity.EntityUID.{EntityUID}
use Rattle.cedar_expressions.specs.Written.{slot_text, entity_text}
use Rattle.cedar_syntax.specs.messages.Conjoined.{list_text}
use Rattle.cedar_syntax.specs.declared.err.parse_errors.ExpectedStaticPolicy.{ExpectedStaticPolicy}
use Rattle.cedar_syntax.specs.declared.err.parse_errors.SlotsInConditionClause.{SlotsInConditionClause}
use Rattle.cedar_syntax.specs.declared.err.parse_errors.InvalidActionType.{InvalidActionType}
use Rattle.cedar_syntax.specs.declared.err.parse_errors.WrongEntityArgument.{WrongEntityArgument}
use Rattle.cedar_syntax.specs.declared.err.parse_errors.Ref.{Ref}
use Rattle.cedar_syntax.specs.declared.err.parse_errors.Ref.TheVariants.{Single, Set, Template}

abbrev pub static_policy_message : ExpectedStaticPolicy → List ℕ
static_policy_message fault =
    codes "expected a static policy, got a template containing the slot "
    ++ slot_text fault.slot.id

abbrev pub template_message : List ℕ
template_message = codes "expected a template, got a static policy"

abbrev pub condition_slot_message : SlotsInConditionClause → List ℕ
condition_slot_message fault =
    codes "found template slot "
    ++ (slot_text fault.slot.id ++ (codes " in a `"
    ++ (fault.clause_type.now ++ codes "` clause")))

abbrev pub quoted_entity : EntityUID → List ℕ
quoted_entity entity = codes "`" ++ (entity_text entity ++ codes "`")

-- one entity, or more
abbrev pub entities_with_type : List EntityUID → List ℕ
entities_with_type [] = codes "expected an entity uid with type `Action` but got "
entities_with_type (second ∷ more) = codes "expected entity uids with type `Action` but got "

abbrev pub action_type_message : InvalidActionType → List ℕ
action_type_message fault =
    entities_with_type fault.euids.tail
    ++ list_text (codes "and") (quoted_entity fault.euids.head)
    (map quoted_entity fault.euids.tail)

abbrev pub argument_text : Ref → List ℕ
argument_text Single = codes "single entity uid"
argument_text Set = codes "set of entity uids"
argument_text Template = codes "template slot"

-- one of these, or either of two
abbrev pub wanted_text : Either Ref (Ref × Ref) → List ℕ
wanted_text (Left one) = argument_text one
wanted_text (Right two) = argument_text two.0 ++ (codes " or " ++ argument_text two.1)

abbrev pub argument_message : WrongEntityArgument → List ℕ
argument_message fault =
    codes "expected " ++ (wanted_text fault.expected
    ++ (codes ", found " ++ argument_text fault.got))

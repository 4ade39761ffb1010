-- Right of an operator of the scope: an entity, the variable's own slot, or a set of entities, in
-- parentheses to any depth. What may stand there beside an entity is told by a kind of reference,
-- as in Cedar's `to_ref_or_refs`. A slot or a set that the kind doesn't take is refused before its
-- match or its items; any other form is refused where it stands.
use Rattle.std.specs.Prelude.{List, [], ◌∷◌, Option, Some, None, Ok, Err, if◌then◌else◌}
use Rattle.either.specs.declared.Either.TheVariants.{Left, Right}
use Rattle.cedar_expressions.specs.declared.entity.EntityUID.{EntityUID}
use Rattle.cedar_expressions.specs.declared.atoms.Var.{Var}
use Rattle.cedar_policy_store.specs.declared.constraints.EntityReference.{EntityReference}
use Rattle.cedar_policy_store.specs.declared.constraints.EntityReference.TheVariants as reference
use Rattle.cedar_syntax.specs.declared.cst.Expr.{Expr}
use Rattle.cedar_syntax.specs.declared.cst.Literal.{Literal}
use Rattle.cedar_syntax.specs.declared.cst.Ref.{Ref}
use Rattle.cedar_syntax.specs.declared.cst.Slot.{Slot}
use Rattle.cedar_syntax.specs.declared.err.parse_errors.Ref as expected
use Rattle.cedar_syntax.specs.declared.err.parse_errors.Ref.TheVariants as stands
use Rattle.cedar_syntax.specs.declared.loc.Loc.{Loc}
use Rattle.cedar_syntax.specs.declared.node.Node.{Node}
use Rattle.cedar_syntax.specs.trees.Forms.{located, expr_form}
use Rattle.cedar_syntax.specs.trees.Located as f
use Rattle.cedar_syntax.specs.trees.Located.{Located, Form, Parts}
use Rattle.cedar_syntax.specs.trees.Slots.{matches}
use Rattle.cedar_policy_conversion.specs.declared.to_ref_or_refs.SingleEntity.{SingleEntity}
use Rattle.cedar_policy_conversion.specs.declared.to_ref_or_refs.OneOrMultipleRefs.{OneOrMultipleRefs}
use Rattle.cedar_policy_conversion.specs.declared.to_ref_or_refs.OneOrMultipleRefs.TheVariants as refs
use Rattle.cedar_conversion.specs.outcome.Conversion.{with_first}
use Rattle.cedar_conversion.specs.parts.Entities.{entity_outcome}
use Rattle.cedar_conversion.specs.parts.HasSide.{no_sign}
use Rattle.cedar_conversion.specs.parts.Names.{content_outcome}
use Rattle.cedar_conversion.specs.outcome.Places.{place_mark}
use Rattle.cedar_conversion.specs.outcome.Detail.{ExpectedRef, nothing, references}
use Rattle.cedar_conversion.specs.outcome.Outcome.{NamedFault, Outcome, fault_outcome, detailed_outcome, both, next, empty_node, wrong_node, wrong_entity_argument}

-- ---- kinds of reference

-- what isn't taken is told with what is
abbrev pub refused_reference : {X : Type 0} → Option Loc → ExpectedRef → expected.Ref → Outcome X
refused_reference place takes got =
    detailed_outcome wrong_entity_argument place (references takes got)

-- where one entity is wanted
abbrev pub single_alone : {X : Type 0} → Option Loc → expected.Ref → Outcome X
single_alone place got = refused_reference place (Left stands.Single) got

-- what a kind takes, and what it makes of an entity, of the variable's slot at a place, and of a
-- set of entities, if it takes one
pub record RefKind (T : Type 0) : Type 0 where
  pub takes : ExpectedRef
  pub single : EntityUID → T
  pub slot : Option Loc → Outcome T
  pub several : Option (List EntityUID → T)

-- one entity and nothing else
abbrev pub single_entity : RefKind SingleEntity
single_entity = record {
  takes = Left stands.Single;
  single = λ uid. record { 0 = uid };
  slot = λ place. single_alone place stands.Template;
  several = None;
}

-- an entity, or the variable's slot
abbrev pub entity_or_slot : RefKind EntityReference
entity_or_slot = record {
  takes = Right (stands.Single, stands.Template);
  single = λ uid. reference.EUID uid;
  slot = λ place. Ok (reference.Slot (place_mark place));
  several = None;
}

-- an entity, or a set of entities
abbrev pub one_or_multiple : RefKind OneOrMultipleRefs
one_or_multiple = record {
  takes = Right (stands.Single, stands.Set);
  single = λ uid. refs.Single uid;
  slot = λ place. refused_reference place (Right (stands.Single, stands.Set)) stands.Template;
  several = Some (λ uids. refs.Multiple uids);
}

-- ---- the primary that an expression is

-- through operators with one part, operands without signs, members without accesses and
-- parentheses
unfoldable mutual
  pub lone : Located → Outcome Located
  lone (f.missing place) = fault_outcome empty_node place
  lone (f.at place form) = lone_form place form

  pub lone_form : Option Loc → Form → Outcome Located
  lone_form place (f.only n) = lone n
  lone_form place (f.chain level n f.none) = lone n
  lone_form place (f.unary op n) = if no_sign op then lone n else fault_outcome wrong_node place
  lone_form place (f.member n f.none) = lone n
  lone_form place (f.parens n) = lone n
  lone_form place (f.literal n) = Ok (f.at place (f.literal n))
  lone_form place (f.name n) = Ok (f.at place (f.name n))
  lone_form place (f.slot n) = Ok (f.at place (f.slot n))
  lone_form place (f.reference n) = Ok (f.at place (f.reference n))
  lone_form place (f.set items) = Ok (f.at place (f.set items))
  lone_form place (f.record_of inits) = Ok (f.at place (f.record_of inits))
  lone_form place _ = fault_outcome wrong_node place

-- ---- what a primary refers to

-- a literal refers to nothing; an empty one is refused at its own place
abbrev pub literal_fault : Option Loc → Option Loc → Option Literal → NamedFault
literal_fault place own (Some literal) = (wrong_node, place, nothing)
literal_fault place own None = (empty_node, own, nothing)

-- nor does a name or a record
abbrev pub form_fault : Option Loc → Form → NamedFault
form_fault place (f.literal n) = literal_fault place n.loc n.node
form_fault place _ = (wrong_node, place, nothing)

abbrev pub no_reference : {X : Type 0} → Option Loc → Form → Outcome X
no_reference place form = Err (form_fault place form ∷ [])

-- an entity alone
abbrev pub entity_form : Option Loc → Form → Outcome EntityUID
entity_form place (f.reference n) = entity_outcome n
entity_form place (f.slot n) = single_alone place stands.Template
entity_form place (f.set items) = single_alone place stands.Set
entity_form place form = no_reference place form

abbrev pub entity_at : Located → Outcome EntityUID
entity_at (f.missing place) = fault_outcome empty_node place
entity_at (f.at place form) = entity_form place form

-- the entity that an expression is
abbrev pub lone_entity : Located → Outcome EntityUID
lone_entity n = next (lone n) entity_at

-- the entities of a set, joined
abbrev pub entities : Parts → Outcome (List EntityUID)
entities f.none = Ok []
entities (f.more op n others) = next (both (lone_entity n) (entities others)) with_first

-- a slot stands for its own variable alone
abbrev pub of_variable : {T : Type 0} → Option Loc → Var → T → Slot → Outcome T
of_variable place x made s = if matches s x then Ok made else fault_outcome wrong_node place

abbrev pub single_outcome : {T : Type 0} → RefKind T → Node (Option Ref) → Outcome T
single_outcome k n = next (entity_outcome n) (λ uid. Ok (k.single uid))

-- a slot of a kind that takes one, and then its match
abbrev pub own_slot_outcome : {T : Type 0} → RefKind T → Var → Option Loc → Node (Option Slot)
    → Outcome T
own_slot_outcome k x place n =
    next (k.slot place) (λ made. next (content_outcome n.loc n.node) (of_variable place x made))

-- the set of a kind that takes one; else a refusal before its items are looked at
abbrev pub several_outcome : {T : Type 0} → Option Loc → ExpectedRef
    → Option (List EntityUID → T) → Outcome (List EntityUID) → Outcome T
several_outcome place takes (Some make) uids = next uids (λ all. Ok (make all))
several_outcome place takes None uids = refused_reference place takes stands.Set

abbrev pub referred_form : {T : Type 0} → RefKind T → Var → Option Loc → Form → Outcome T
referred_form k x place (f.reference n) = single_outcome k n
referred_form k x place (f.slot n) = own_slot_outcome k x place n
referred_form k x place (f.set items) =
    several_outcome place k.takes k.several (entities items)
referred_form k x place form = no_reference place form

abbrev pub referent_at : {T : Type 0} → RefKind T → Var → Located → Outcome T
referent_at k x (f.missing place) = fault_outcome empty_node place
referent_at k x (f.at place form) = referred_form k x place form

-- what an expression refers to
abbrev pub referent_outcome : {T : Type 0} → RefKind T → Var → Node (Option Expr) → Outcome T
referent_outcome k x n = next (lone (located expr_form n)) (referent_at k x)

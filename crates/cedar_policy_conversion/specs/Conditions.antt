-- The conditions of a policy: what `when` and `unless` give, an expression's value without slots,
-- or faults. The rules are those of Cedar's `Cond::to_expr`. How they are joined: PolicyMeaning.
use Rattle.std.specs.Prelude.{ℕ, List, map, Option, Some, None, Ok, Bool, true, false, if◌then◌else◌, codes}
use Rattle.cedar_expressions.specs.declared.place.Slot.{Slot}
use Rattle.cedar_expressions.specs.Slots.{slots_of}
use Rattle.cedar_expressions.specs.Value as v
use Rattle.cedar_expressions.specs.Value.{Value}
use Rattle.cedar_syntax.specs.declared.cst.Cond.{Cond}
use Rattle.cedar_syntax.specs.declared.cst.Expr.{Expr}
use Rattle.cedar_syntax.specs.declared.cst.Ident.{Ident}
use Rattle.cedar_syntax.specs.declared.cst.Ident.TheVariants as words
use Rattle.cedar_syntax.specs.declared.loc.Loc.{Loc}
use Rattle.cedar_syntax.specs.declared.node.Node.{Node}
use Rattle.cedar_syntax.specs.trees.Forms.{located, expr_form}
use Rattle.cedar_conversion.specs.outcome.Conversion.{value_outcome}
use Rattle.cedar_conversion.specs.strict.Extensions.{Extensions}
use Rattle.cedar_conversion.specs.parts.Names.{content_outcome, all_of}
use Rattle.cedar_conversion.specs.outcome.Detail as detail
use Rattle.cedar_conversion.specs.outcome.Outcome.{NamedFault, Outcome, detailed_outcome, next, invalid_condition, empty_clause, slots_in_condition_clause, faults_outcome}
use Rattle.cedar_conversion.specs.outcome.Places.{place_within}

-- ---- one condition

-- whether a condition's word is `when`; else it is `unless`
abbrev pub is_when_of : Option Loc → Ident → Outcome Bool
is_when_of place words.When = Ok true
is_when_of place words.Unless = Ok false
is_when_of place i = detailed_outcome invalid_condition place (detail.word i)

abbrev pub is_when : Node (Option Ident) → Outcome Bool
is_when n = next (content_outcome n.loc n.node) (is_when_of n.loc)

-- behind the condition's word
abbrev pub clause : Extensions → Option Loc → Option Ident → Option (Node (Option Expr))
    → Outcome Value
clause e place word (Some n) = value_outcome e (located expr_form n)
clause e place word None = detailed_outcome empty_clause place (detail.word_there word)

-- `unless` is `not`
abbrev pub condition_value : Bool → Value → Value
condition_value true x = x
condition_value false x = v.not x

-- the word of a condition
abbrev pub condition_word : Bool → List ℕ
condition_word when = if when then codes "when" else codes "unless"

-- a slot where it stands within the condition, else at the condition
abbrev pub condition_slot_fault : Option Loc → List ℕ → Slot → NamedFault
condition_slot_fault place word s =
    (slots_in_condition_clause, place_within place s.place, detail.condition_slot s word)

abbrev pub slots_outcome : Option Loc → List ℕ → Value → Outcome (Unit {0})
slots_outcome place word x = faults_outcome (map (condition_slot_fault place word) (slots_of x))

abbrev pub without_slots : Option Loc → Bool → Value → Outcome Value
without_slots place when x =
    next (slots_outcome place (condition_word when) x) (λ _. Ok (condition_value when x))

abbrev pub condition_of : Extensions → Option Loc → Cond → Outcome Value
condition_of e place c =
    next (is_when c.cond) (λ when. next (clause e place c.cond.node c.expr)
    (without_slots place when))

abbrev pub condition_outcome : Extensions → Node (Option Cond) → Outcome Value
condition_outcome e n = next (content_outcome n.loc n.node) (condition_of e n.loc)

-- ---- all of a policy

abbrev pub conditions_outcome : Extensions → List (Node (Option Cond)) → Outcome (List Value)
conditions_outcome e cs = all_of (condition_outcome e) cs

-- What private functions hold while parts are joined: accesses while they are applied, the sides
-- of `has` and `is`. Contracts of private functions alone name these.
use Rattle.std.specs.Prelude.{ℕ, List, [], ◌∷◌, ◌++◌, map, Bool, true, false, Option, Some, None, Result, Ok, Err, if◌then◌else◌}
use Rattle.std.specs.declared.vec.Vec.{Vec}
use Rattle.std.specs.declared.alloc.Global.{Global}
use Rattle.cedar_syntax.specs.declared.err.faults.Failure.{Failure}
use Rattle.cedar_syntax.specs.declared.loc.Loc.{Loc}
use Rattle.cedar_syntax.specs.declared.node.Node.{Node}
use Rattle.cedar_syntax.specs.declared.cst.Add.{Add}
use Rattle.cedar_syntax.specs.trees.Forms.{located, add_form}
use Rattle.cedar_expressions.specs.Value as v
use Rattle.cedar_expressions.specs.Value.{Value}
use Rattle.cedar_conversion.specs.declared.primaries.members.AccessValue.{AccessValue as Access}
use Rattle.cedar_conversion.specs.declared.primaries.members.AccessValue.TheVariants as access
use Rattle.cedar_conversion.specs.declared.answer.special.ExprOrSpecial.{ExprOrSpecial}
use Rattle.cedar_conversion.specs.declared.answer.special.ExprOrSpecial.TheVariants as special
use Rattle.cedar_expressions.specs.declared.atoms.Var.{Var}
use Rattle.cedar_expressions.specs.declared.entity.EntityType.{EntityType}
use Rattle.cedar_expressions.specs.declared.atoms.PatternElem.{PatternElem}
use Rattle.cedar_conversion.specs.outcome.Conversion.{ValueAndType, type_test_outcome, type_within_outcome, value_outcome}
use Rattle.cedar_conversion.specs.strict.Extensions.{Extensions}
use Rattle.cedar_conversion.specs.parts.HasSide.{Attributes}
use Rattle.cedar_conversion.specs.outcome.Held.{Held}
use Rattle.cedar_conversion.specs.parts.Members as given
use Rattle.cedar_conversion.specs.parts.Members.{accesses_of, method_outcome}
use Rattle.cedar_conversion.specs.outcome.Outcome.{Outcome, fault_outcome, next, expression_call}

abbrev pub seen_access : {E : Type 0} → (E → Value) → Access E → given.Access
seen_access meaning (access.Field id) = given.field id
seen_access meaning (access.Call args) = given.call (map meaning args.items)
seen_access meaning (access.Index text) = given.index text

abbrev pub seen_accesses : {E : Type 0} → (E → Value) → Vec (Access E) Global → List given.Access
seen_accesses meaning v = map (seen_access meaning) v.items

-- whether a call comes first
abbrev pub begins_call : List given.Access → Bool
begins_call (given.call args ∷ rest) = true
begins_call _ = false

-- a field that waits
abbrev pub waiting : Option (List ℕ) → List given.Access
waiting None = []
waiting (Some id) = given.field id ∷ []

abbrev pub after_field : Value → Option (List ℕ) → Value
after_field x None = x
after_field x (Some id) = v.get_attr x id

-- a call of a value, which is a method's where a field waits
abbrev pub called_outcome : Extensions → Option Loc → Value → Option (List ℕ) → List Value
    → Outcome Value
called_outcome e place x None args = fault_outcome expression_call place
called_outcome e place x (Some id) args = method_outcome e place id x args

-- what is left of a primary's accesses, where a field may wait
abbrev pub left_outcome : Extensions → Option Loc → Value → Option (List ℕ) → List given.Access
    → Outcome Held
left_outcome e place x f rest = accesses_of e place x (waiting f ++ rest)

-- ---- what a primary gave

-- whether it is no name, but for a variable's
abbrev pub is_value : {E : Type 0} → Result (ExprOrSpecial E) Failure → Bool
is_value (Ok (special.Expr e place)) = true
is_value (Ok (special.Var x place)) = true
is_value (Ok (special.Name name place)) = false
is_value (Ok (special.BoolLit b place)) = true
is_value (Ok (special.StrLit raw place)) = true
is_value (Err failure) = false

abbrev pub variable_of : {E : Type 0} → Result (ExprOrSpecial E) Failure → Option Var
variable_of (Ok (special.Var x place)) = Some x
variable_of (Ok (special.Expr e place)) = None
variable_of (Ok (special.Name name place)) = None
variable_of (Ok (special.BoolLit b place)) = None
variable_of (Ok (special.StrLit raw place)) = None
variable_of (Err failure) = None

-- the variable that is called
abbrev pub called_variable : {E : Type 0} → Result (ExprOrSpecial E) Failure → List given.Access
    → Option Var
called_variable item accesses = if begins_call accesses then variable_of item else None

-- ---- sides

abbrev pub seen_attributes : List ℕ × Vec (List ℕ) Global → Attributes
seen_attributes p = (p.0, p.1.items)

abbrev pub seen_type : {E : Type 0} → (E → Value) → E × EntityType → ValueAndType
seen_type meaning p = (meaning p.0, p.1)

-- a value and the pattern right of its `like`
abbrev pub Matched : Type 0
Matched = Value × List PatternElem

abbrev pub seen_pattern : {E : Type 0} → (E → Value) → E × Vec PatternElem Global → Matched
seen_pattern meaning p = (meaning p.0, p.1.items)

-- `is`, alone or with what stands behind `in`
abbrev pub type_relation_outcome : Extensions → Option Loc → Outcome ValueAndType
    → Option (Node (Option Add)) → Outcome Held
type_relation_outcome e place p None = next p (type_test_outcome place)
type_relation_outcome e place p (Some n) =
    next p (λ q. next (value_outcome e (located add_form n)) (type_within_outcome place q))

-- ---- records

abbrev pub Pair : Type 0
Pair = List ℕ × Value

abbrev pub seen_pair : {E : Type 0} → (E → Value) → List ℕ × E → Pair
seen_pair meaning p = (p.0, meaning p.1)

abbrev pub seen_pairs : {E : Type 0} → (E → Value) → Vec (List ℕ × E) Global → List Pair
seen_pairs meaning v = map (seen_pair meaning) v.items

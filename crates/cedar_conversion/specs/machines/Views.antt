-- How private contracts of both conversions see the program's values, operators and faults: as
-- those of which the outcomes speak.
use Rattle.std.specs.Prelude.{◌≡◌, List, [], ◌∷◌, ◌++◌, map, Option, Some, None, Result, Ok, Err}
use Rattle.std.specs.Option.{option_copied, option_map}
use denote.Ref.{Bor}
use Rattle.std.specs.declared.alloc.Global.{Global}
use Rattle.std.specs.declared.vec.Vec.{Vec}
use Rattle.cedar_expressions.specs.declared.place.Place.{Place}
use Rattle.cedar_expressions.specs.Value.{Value}
use Rattle.cedar_syntax.specs.declared.err.faults.Failure.{Failure}
use Rattle.cedar_syntax.specs.declared.err.faults.Failure.TheVariants.{Memory, Errors}
use Rattle.cedar_syntax.specs.declared.err.to_ast.ToASTError.{ToASTError}
use Rattle.cedar_syntax.specs.declared.loc.Loc.{Loc}
use Rattle.cedar_syntax.specs.faults.Joined.{TellsBoth}
use Rattle.cedar_syntax.specs.faults.ParseErrors.{faults_of}
use Rattle.cedar_syntax.specs.trees.Tree.{Level, Operator}
use Rattle.cedar_syntax.specs.declared.cst.RelOp.{RelOp}
use Rattle.cedar_conversion.specs.declared.answer.special.ExprOrSpecial.{ExprOrSpecial}
use Rattle.cedar_conversion.specs.declared.answer.special.ExprOrSpecial.TheVariants as special
use Rattle.cedar_conversion.specs.outcome.Conversion.{Part, comparison_outcome, joint_outcome}
use Rattle.cedar_conversion.specs.outcome.Held.{Held, expression, variable, bare_name, bare_truth, bare_string, as_expression}
use Rattle.cedar_conversion.specs.outcome.Detail.{nothing}
use Rattle.cedar_conversion.specs.outcome.Outcome.{Kind, NamedFault, Outcome, both, next}
use Rattle.cedar_conversion.specs.outcome.Places.{bytes_of}
use Rattle.cedar_conversion.specs.outcome.Seen.{kind_of, detail_of, named_faults}

-- ---- faults

-- the failure is one fault alone, or want of memory
abbrev pub TellsOne : Failure → NamedFault → Type 0
TellsOne (Memory error) fault = Unit {0}
TellsOne (Errors errors) fault = named_faults (faults_of errors) ≡ fault ∷ []

-- the same of a fault of which its kind tells all
abbrev pub TellsAlone : Failure → Kind → Option Loc → Type 0
TellsAlone failure kind place = TellsOne failure (kind, place, nothing)

-- a fault that is told, if there is one
abbrev pub optional_fault : Option ToASTError → List NamedFault
optional_fault (Some fault) = (kind_of fault.kind, fault.loc, detail_of fault.kind) ∷ []
optional_fault None = []

-- a part that fails so
abbrev pub refused : Failure → Result (Unit {0}) Failure
refused failure = Err failure

-- ---- expressions

abbrev pub empty_view : {T : Type 0} → T → Unit {0}
empty_view x = tt

-- an expression, or what is one but may be something else where it stands bare
abbrev pub plain : {E : Type 0} → (E → Value) → ExprOrSpecial E → Held
plain meaning (special.Expr e place) = expression place (meaning e)
plain meaning (special.Var x place) = variable place x
plain meaning (special.Name name place) = bare_name place name
plain meaning (special.BoolLit b place) = bare_truth place b
plain meaning (special.StrLit raw place) = bare_string place raw

-- expressions behind operators
abbrev pub rest_view : {O E : Type 0} → (O → Operator) → (E → Value) → Vec (O × E) Global
    → List Part
rest_view operator meaning v = map (λ p. (operator p.0, meaning p.1)) v.items

-- expressions behind one and the same operator
abbrev pub alike_view : {E : Type 0} → Operator → (E → Value) → Vec E Global → List Part
alike_view op meaning v = map (λ e. (op, meaning e)) v.items

-- one more part behind those so far
abbrev pub with_last : Operator → List Part × Value → Outcome (List Part)
with_last op p = Ok (p.0 ++ (op, p.1) ∷ [])

abbrev pub one_more : Operator → Outcome (List Part) → Outcome Value → Outcome (List Part)
one_more op ps x = next (both ps x) (with_last op)

-- a first part and those behind one operator
abbrev pub alike_outcome : Level → Option Loc → Held × List Part → Outcome Held
alike_outcome level place p = joint_outcome level place p.0 p.1

-- two sides of a comparison
abbrev pub sides_outcome : Option Loc → RelOp → Held × Value → Outcome Held
sides_outcome place op p = next (as_expression p.0) (λ a. comparison_outcome place op a p.1)

-- a list that is one item longer than what was there
abbrev pub Longer : {T : Type 0} → Result (Vec T Global) Failure → Result T Failure → Vec T Global
    → Type 0
Longer (Ok all) (Ok item) more = more.items ≡ all.items ++ item ∷ []
Longer (Ok all) (Err failure) more = ⊥
Longer (Err failure) next more = ⊥

-- one more item behind those so far; or want of memory; or the failure of what fails of both
abbrev pub Grows : {T : Type 0} → Result (Vec T Global) Failure → Result T Failure
    → Result (Vec T Global) Failure → Type 0
Grows all next (Ok more) = Longer all next more
Grows all next (Err failure) = TellsBoth failure all next

-- ---- places

-- the bytes of a place that is lent
abbrev pub lent_bytes : Option (Bor Loc) → Option Place
lent_bytes loc = option_map bytes_of (option_copied loc)

-- Which faults are due in a policy: what its effect, scope and conditions are refused with.
use Rattle.std.specs.Prelude.{◌≡◌, ◌≢◌, ℕ, ◌-◌, Bool, true, false, List, [], ◌∷◌, filter, length, Option, Some, Err}
use Rattle.std.specs.List.{All}
use Rattle.cedar_syntax.specs.declared.cst.Cond.{Cond}
use Rattle.cedar_syntax.specs.declared.cst.Expr.{Expr}
use Rattle.cedar_syntax.specs.declared.cst.Ident.{Ident}
use Rattle.cedar_syntax.specs.declared.cst.Ident.TheVariants as words
use Rattle.cedar_syntax.specs.declared.cst.Policy.{Policy}
use Rattle.cedar_syntax.specs.declared.cst.Policy.TheVariants as trees
use Rattle.cedar_syntax.specs.declared.cst.PolicyImpl.{PolicyImpl}
use Rattle.cedar_syntax.specs.declared.loc.Loc.{Loc}
use Rattle.cedar_syntax.specs.declared.node.Node.{Node}
use Rattle.cedar_syntax.specs.trees.Forms.{located, expr_form}
use Rattle.cedar_policy_parser.specs.faults.Blocks.{faults_from}
use Rattle.cedar_policy_conversion.specs.Conditions.{condition_outcome}
use Rattle.cedar_conversion.specs.outcome.Conversion.{value_outcome}
use Rattle.cedar_policy_parser.specs.faults.DueKinds.{IsDueIn}
use Rattle.cedar_conversion.specs.strict.Extensions.{Extensions}
use Rattle.cedar_conversion.specs.outcome.Detail.{word_there}
use Rattle.cedar_conversion.specs.outcome.Outcome.{Kind, NamedFault, invalid_effect, missing_scope_variable, extra_scope_element, duplicate_policy_id, duplicate_template_id, membership_invariant_violation}
use Rattle.cedar_policy_conversion.specs.Policies.{effect_outcome}
use Rattle.cedar_policy_conversion.specs.Scope.{scope_outcome}
use Rattle.cedar_policy_parser.specs.faults.Sites.{wanted, expression}

-- a condition that isn't empty, nor is its word, which has a place; it may have an expression
abbrev pub HoldsCondition : Node (Option Cond) → Ident → Option Loc → Option (Node (Option Expr))
    → Type 0
HoldsCondition n word place expr =
    n.node ≡ Some (record { cond = record { node = Some word; loc = place }; expr = expr })

-- a condition begins with one of these
abbrev pub IsWhenOrUnless : Ident → Type 0
IsWhenOrUnless words.When = Unit {0}
IsWhenOrUnless words.Unless = Unit {0}
IsWhenOrUnless _ = ⊥

-- the kinds of an element of the scope that isn't there, and of one beyond three
abbrev pub is_missing_variable : Kind → Bool
is_missing_variable missing_scope_variable = true
is_missing_variable _ = false

abbrev pub is_extra_element : Kind → Bool
is_extra_element extra_scope_element = true
is_extra_element _ = false

-- how many faults are of a kind
abbrev pub count : (Kind → Bool) → List NamedFault → ℕ
count is_one faults = length (filter (λ f. is_one f.0) faults)

-- ---- a policy's effect and scope

-- the parts of the policy that a node holds
abbrev pub OfParts : (PolicyImpl → Type 0) → Node (Option Policy) → Type 0
OfParts P n = (parts : PolicyImpl) → n.node ≡ Some (trees.Policy parts) → P parts

-- an effect that is refused is so as one that is none, alone, with its word and at its own place
abbrev pub RefusesEffect : PolicyImpl → Type 0
RefusesEffect parts =
    (faults : List NamedFault) → effect_outcome parts.effect ≡ Err faults
    → faults ≡ (invalid_effect, parts.effect.loc, word_there parts.effect.node) ∷ []

-- as many missing elements are told as there are fewer than three
abbrev pub TellsMissing : Extensions → PolicyImpl → Type 0
TellsMissing e parts =
    count is_missing_variable (faults_from (scope_outcome e parts)) ≡ 3 - length parts.variables

-- and as many beyond three as there are
abbrev pub TellsExtra : Extensions → PolicyImpl → Type 0
TellsExtra e parts =
    count is_extra_element (faults_from (scope_outcome e parts)) ≡ length parts.variables - 3

-- ---- a policy's conditions

-- a condition with `when` or `unless` whose expression isn't converted is refused with the
-- expression's faults, each of them due in it
abbrev pub HasDueFaults : Extensions → Node (Option Cond) → Type 0
HasDueFaults e n =
    (word : Ident) (place : Option Loc) (expr : Node (Option Expr)) (faults : List NamedFault)
    → HoldsCondition n word place (Some expr) → IsWhenOrUnless word
    → value_outcome e (located expr_form expr) ≡ Err faults
    → (condition_outcome e n ≡ Err faults)
    × All (IsDueIn e (wanted expression (located expr_form expr))) faults

-- each condition of a policy
abbrev pub HaveDueFaults : Extensions → PolicyImpl → Type 0
HaveDueFaults e parts = All (HasDueFaults e) parts.conds

-- ---- what is never told

-- a fault that isn't of a name that two policies have, nor of the kind that a text's own fault is
-- seen as
abbrev pub IsTellable : NamedFault → Type 0
IsTellable fault =
    (fault.0 ≢ duplicate_policy_id) × (fault.0 ≢ duplicate_template_id)
    × (fault.0 ≢ membership_invariant_violation)

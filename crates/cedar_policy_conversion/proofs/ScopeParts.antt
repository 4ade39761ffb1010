-- The elements of a scope, each behind the place of the one before it.
use Rattle.std.proofs.Common.{◌≡◌, ◌≤◌, ◌∙◌, ℕ, zero, suc, List, [], ◌∷◌, length, Option, Some, None, option_copied, Result, Ok, IsErrAnd, slice_get, drop, refl, sym, ap, arith}
use Rattle.std.specs.Slice.{IsItemAt}
use Rattle.std.proofs.lemmas.Option.{slice_get_read}
use denote.Ref.{Bor}
use Rattle.cedar_expressions.specs.declared.atoms.Var.{Var}
use Rattle.cedar_expressions.specs.declared.atoms.Var.TheVariants as vars
use Rattle.cedar_syntax.specs.declared.cst.VariableDef.{VariableDef}
use Rattle.cedar_syntax.specs.declared.err.faults.Failure.{Failure}
use Rattle.cedar_syntax.specs.declared.loc.Loc.{Loc}
use Rattle.cedar_syntax.specs.declared.node.Node.{Node}
use Rattle.cedar_conversion.specs.strict.Extensions.{Extensions}
use Rattle.cedar_conversion.specs.outcome.Outcome.{Outcome, both, next}
use Rattle.cedar_policy_conversion.specs.Scope.{Scope, action_outcome, elements_outcome, if_there, no_extra, place_behind, principal_outcome, resource_outcome, three}
use Rattle.cedar_conversion.specs.outcome.Seen.{Gives, Refuses, itself}
use Rattle.cedar_conversion.proofs.Outcomes.{given_next, gives_at, passed_on, refused_next}

abbrev Element : Type 0
Element = Option (Node (Option VariableDef))

pub elements_given : (e : Extensions) (before one two : Option Loc) (first second third : Element) (others ns : List (Node (Option VariableDef))) (r : Result Scope Failure)
    → first ≡ slice_get ns 0 → second ≡ slice_get ns 1 → third ≡ slice_get ns 2 → others ≡ drop 3 ns → one ≡ place_behind before first → two ≡ place_behind one second
    → Gives itself r (next (both (both (if_there vars.Principal (principal_outcome e) before first) (if_there vars.Action (action_outcome e) one second)) (both (if_there vars.Resource (resource_outcome e) two third) (no_extra others))) three)
    → Gives itself r (elements_outcome e before ns)
elements_given e before one two first second third others ns r a b c d j k h =
    let behind_first : one ≡ place_behind before (slice_get ns 0) = j ∙ ap (place_behind before) a in
    let behind_second : two ≡ place_behind (place_behind before (slice_get ns 0)) (slice_get ns 1) = k ∙ (λ i. place_behind (behind_first i) (b i)) in
    gives_at itself r _ _
    (sym (λ i. next (both (both (if_there vars.Principal (principal_outcome e) before (a i)) (if_there vars.Action (action_outcome e) (behind_first i) (b i))) (both (if_there vars.Resource (resource_outcome e) (behind_second i) (c i)) (no_extra (d i)))) three)) h

-- ---- an element that may not be there

pub there_next : {X Y : Type 0} (x : Var) (g : Node (Option VariableDef) → Outcome X) (k : X → Outcome Y) (before : Option Loc) (o : Element) → if_there x (λ n. next (g n) k) before o ≡ next (if_there x g before o) k
there_next x g k before (Some n) = refl
there_next x g k before None = refl

pub is_there : {X Y : Type 0} (x : Var) (g : Node (Option VariableDef) → Outcome X) (k : X → Outcome Y) (before : Option Loc) (o : Element) (y : X) (r : Result Y Failure)
    → if_there x g before o ≡ Ok y → Gives itself r (k y) → Gives itself r (if_there x (λ n. next (g n) k) before o)
is_there x g k before o y r e h = gives_at itself r _ _ (there_next x g k before o ∙ given_next (if_there x g before o) y k e) h

pub not_there : {X Y : Type 0} (x : Var) (g : Node (Option VariableDef) → Outcome X) (k : X → Outcome Y) (before : Option Loc) (o : Element) (r : Result Y Failure) (f : Failure) → IsErrAnd r (λ e. e ≡ f)
    → Refuses f (if_there x g before o) → Gives itself r (if_there x (λ n. next (g n) k) before o)
not_there x g k before o r f is h = gives_at itself r _ _ (there_next x g k before o) (passed_on itself r f _ is (refused_next f (if_there x g before o) k h))

-- ---- what a slice gives

none_past : {A : Type 0} (xs : List A) (i : ℕ) → length xs ≤ i → slice_get xs i ≡ None
none_past [] i h = refl
none_past (x ∷ xs) zero h = absurd (omega arith)
none_past (x ∷ xs) (suc i) h = none_past xs i (omega arith)

pub got : {A : Type 0} (xs : List A) (i : ℕ) (r : Option (Bor A)) → IsItemAt xs i r → option_copied r ≡ slice_get xs i
got xs i None h = sym (none_past xs i h.3)
got xs i (Some x) h = sym (slice_get_read xs (length xs) i x.now refl h.3.0 h.1)

-- Faults one behind another, and places within a place.
use Rattle.std.proofs.Common.{◌≡◌, ◌+◌, ◌<◌, ◌∙◌, ℕ, zero, suc, List, [], ◌∷◌, ◌++◌, map, take, length, get_or, Ok, Err, refl, sym, ap, arith}
use Rattle.cedar_syntax.specs.faults.ParseErrors.{faults_of}
use Rattle.cedar_syntax.specs.declared.err.faults.Failure.TheVariants.{Errors}
use Rattle.cedar_syntax.specs.declared.err.faults.ParseError.TheVariants.{ToAST}
use Rattle.cedar_syntax.specs.declared.err.faults.ParseErrors.{ParseErrors}
use Rattle.cedar_syntax.specs.declared.err.to_ast.ToASTError.{ToASTError}
use Rattle.cedar_conversion.specs.outcome.Outcome.{NamedFault, both, next, detailed_outcome, faults_outcome}
use Rattle.cedar_conversion.specs.outcome.Seen.{Refuses, named_faults, named_fault}
use Rattle.cedar_conversion.proofs.Loops.{map_snoc, take_next}

-- one fault more
pub one_behind : (faults : List NamedFault) (one : NamedFault) → next (both (faults_outcome faults) (detailed_outcome {Y = Unit {0}} one.0 one.1 one.2)) (λ p. Ok tt) ≡ faults_outcome (faults ++ one ∷ [])
one_behind [] one = refl
one_behind (f ∷ faults) one = refl

-- one fault alone, as a refusal
pub one_told : (made : ToASTError) (errors : ParseErrors) (one : NamedFault) → faults_of errors ≡ ToAST made ∷ [] → named_fault (ToAST made) ≡ one → Refuses {Y = Unit {0}} (Errors errors) (detailed_outcome one.0 one.1 one.2)
one_told made errors one e k = ap (λ x. Err (x ∷ [])) (sym k) ∙ ap (λ fs. Err (named_faults fs)) (sym e)

-- the fault of one item more stands behind those of the items before it
pub told_next : {X : Type 0} (f : X → NamedFault) (xs : List X) (i : ℕ) (x : X) → i < length xs → x ≡ get_or xs i x → faults_outcome (map f (take (i + 1) xs)) ≡ faults_outcome (map f (take i xs) ++ f x ∷ [])
told_next f xs i x more is = ap (λ ys. faults_outcome (map f ys)) (take_next xs i x more is) ∙ ap faults_outcome (map_snoc f (take i xs) x)

same_read : {X : Type 0} (xs : List X) (i : ℕ) (d e : X) → i < length xs → get_or xs i d ≡ get_or xs i e
same_read [] i d e h = absurd (omega arith)
same_read (x ∷ xs) zero d e h = refl
same_read (x ∷ xs) (suc i) d e h = same_read xs i d e (omega arith)

-- the same of the item that is read there
pub told_read : {X : Type 0} (f : X → NamedFault) (xs : List X) (i : ℕ) (d : X) → i < length xs → faults_outcome (map f (take (i + 1) xs)) ≡ faults_outcome (map f (take i xs) ++ f (get_or xs i d) ∷ [])
told_read f xs i d more = told_next f xs i (get_or xs i d) more (same_read xs i d (get_or xs i d) more)

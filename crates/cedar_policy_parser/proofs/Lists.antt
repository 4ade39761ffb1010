-- Lists of parts, one longer at the end.
use Rattle.std.proofs.Common.{◌≡◌, ◌<◌, List, [], ◌∷◌, ◌++◌, length, refl, ap, arith}
use Rattle.cedar_expressions.specs.declared.operators.AddOp.{AddOp}
use Rattle.cedar_expressions.specs.Value.{Value}
use Rattle.cedar_syntax.specs.trees.Tree as t
use Rattle.cedar_syntax.specs.trees.Tree.{Operator}
use Rattle.cedar_conversion.specs.outcome.Conversion.{Part, bodies, sum_terms, add_op}

pub no_snoc : {A : Type 0} (xs : List A) (x : A) → xs ++ x ∷ [] ≡ [] → ⊥
no_snoc [] x e = cc
no_snoc (y ∷ ys) x e = cc

pub snoc_one : {A : Type 0} (xs : List A) (x y : A) → xs ++ x ∷ [] ≡ y ∷ [] → (xs ≡ []) × (x ≡ y)
snoc_one [] x y e = (refl, cc)
snoc_one (z ∷ zs) x y e = let h : zs ++ x ∷ [] ≡ [] = cc in absurd (no_snoc zs x h)

pub bodies-snoc : (ps : List Part) (op : Operator) (b : Value) → bodies (ps ++ (op, b) ∷ []) ≡ bodies ps ++ b ∷ []
bodies-snoc [] op b = refl
bodies-snoc (p ∷ ps) op b = ap (λ bs. p.1 ∷ bs) (bodies-snoc ps op b)

pub added-snoc : (ps : List Part) (op : AddOp) (b : Value) → sum_terms (ps ++ (t.add op, b) ∷ []) ≡ sum_terms ps ++ (op, b) ∷ []
added-snoc [] op b = refl
added-snoc (p ∷ ps) op b = ap (λ bs. (add_op p.0, p.1) ∷ bs) (added-snoc ps op b)

pub length-bodies : (p : Part) (ps : List Part) → 0 < length (bodies (p ∷ ps))
length-bodies p ps = grind arith

pub length-added : (p : Part) (ps : List Part) → 0 < length (sum_terms (p ∷ ps))
length-added p ps = grind arith

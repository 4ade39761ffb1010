-- Conditions folded to the right, from the last.
use Rattle.std.proofs.Common.{◌≡◌, ◌∙◌, List, [], ◌∷◌, ◌++◌, append_assoc, map, length, Option, Some, option_to_list, refl, sym, ap, arith}
use Rattle.cedar_expressions.specs.declared.expr.Expr.{Expr}
use Rattle.cedar_expressions.specs.Meaning.{unplaced}
use Rattle.cedar_expressions.specs.Value as v
use Rattle.cedar_expressions.specs.Value.{Value}
use Rattle.cedar_policy_conversion.specs.PolicyMeaning.{joint_condition, conjunction_value}
use Rattle.cedar_conversion.proofs.Loops.{map_snoc}

folded_last : (c : Value) (cs : List Value) (a b : Value) → conjunction_value c (cs ++ a ∷ b ∷ []) ≡ conjunction_value c (cs ++ v.and a b ∷ [])
folded_last c [] a b = refl
folded_last c (d ∷ cs) a b = ap (v.and c) (folded_last d cs a b)

meant_last : (cs : List Value) (a b : Value) → joint_condition (cs ++ a ∷ b ∷ []) ≡ joint_condition (cs ++ v.and a b ∷ [])
meant_last [] a b = refl
meant_last (c ∷ cs) a b = ap Some (folded_last c cs a b)

popped : (xs ys : List Expr) (o : Option Expr) (x : Expr) → xs ≡ ys ++ option_to_list o → o ≡ Some x → map unplaced xs ≡ map unplaced ys ++ unplaced x ∷ []
popped xs ys o x e h = ap (map unplaced) (e ∙ ap (λ p. ys ++ option_to_list p) h) ∙ map_snoc unplaced ys x

-- the last alone, behind the earlier ones
pub meant_first : (xs ys : List Expr) (o : Option Expr) (x : Expr) → xs ≡ ys ++ option_to_list o → o ≡ Some x → joint_condition (map unplaced ys ++ unplaced x ∷ []) ≡ joint_condition (map unplaced xs)
meant_first xs ys o x e h = ap joint_condition (sym (popped xs ys o x e h))

-- one more joined with those behind it
pub meant_more : (xs ys : List Expr) (o : Option Expr) (x a r : Expr) (all : Option Value) → xs ≡ ys ++ option_to_list o → o ≡ Some x → unplaced r ≡ v.and (unplaced x) (unplaced a)
    → joint_condition (map unplaced xs ++ unplaced a ∷ []) ≡ all → joint_condition (map unplaced ys ++ unplaced r ∷ []) ≡ all
meant_more xs ys o x a r all e h k same =
    ap (λ w. joint_condition (map unplaced ys ++ w ∷ [])) k
    ∙ sym (meant_last (map unplaced ys) (unplaced x) (unplaced a))
    ∙ sym (ap joint_condition (ap (λ l. l ++ unplaced a ∷ []) (popped xs ys o x e h) ∙ append_assoc (map unplaced ys) (unplaced x ∷ []) (unplaced a ∷ [])))
    ∙ same

-- none is left
pub meant_whole : (xs : List Expr) (a : Expr) (all : Option Value) → length xs ≡ 0 → joint_condition (map unplaced xs ++ unplaced a ∷ []) ≡ all → Some (unplaced a) ≡ all
meant_whole [] a all e h = h
meant_whole (x ∷ xs) a all e h = absurd (omega arith)

pub meant_none : (xs : List Expr) → length xs ≡ 0 → joint_condition [] ≡ joint_condition (map unplaced xs)
meant_none [] e = refl
meant_none (x ∷ xs) e = absurd (omega arith)

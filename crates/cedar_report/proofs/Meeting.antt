-- The words beside a token, and what is asked of them, one by one.
use Rattle.std.proofs.Common.{◌≡◌, ℕ, ◌+◌, ◌<◌, List, [], ◌∷◌, ◌++◌, true, false, length, get_or, drop, refl, sym, ap, ◌∙◌, ⊎_elim, arith, Bor}
use Rattle.std.specs.Prelude.{◌&&◌, min}
use Rattle.std.proofs.lemmas.Bool.{cases_lt}
use Rattle.std.proofs.lemmas.List.{drop_more, at_drop_all, length_push}
use Rattle.cedar_report.specs.declared.sign.Sign.{Sign}
use Rattle.cedar_report.specs.Signs.{meets, all_meet}

-- one word more
meet_more : (signs : List Sign) (words : List (Bor (List ℕ))) (i : ℕ) (s : Sign) (w : Bor (List ℕ)) → i < length signs → i < length words → s ≡ get_or signs i s → w ≡ get_or words i w
    → all_meet (drop i signs) (drop i words) ≡ (meets s w.now && all_meet (drop (i + 1) signs) (drop (i + 1) words))
meet_more signs words i s w l m e f =
    let rest = all_meet (drop (i + 1) signs) (drop (i + 1) words) in
    ap (λ xs. all_meet xs (drop i words)) (drop_more signs i s l)
    ∙ ap (λ ys. all_meet (get_or signs i s ∷ drop (i + 1) signs) ys) (drop_more words i w m)
    ∙ ap (λ x. meets x (get_or words i w).now && rest) (sym e)
    ∙ ap (λ y. meets s y.now && rest) (sym f)

-- a word that isn't what is asked
pub not_met : (signs : List Sign) (words : List (Bor (List ℕ))) (i : ℕ) (s : Sign) (w : Bor (List ℕ)) → i < length signs → i < length words → s ≡ get_or signs i s → w ≡ get_or words i w
    → meets s w.now ≡ false → all_meet (drop i signs) (drop i words) ≡ all_meet signs words → false ≡ all_meet signs words
not_met signs words i s w l m e f fails so_far =
    sym (ap (λ b. b && all_meet (drop (i + 1) signs) (drop (i + 1) words)) fails) ∙ sym (meet_more signs words i s w l m e f) ∙ so_far

-- one that is
pub met : {A : Type 0} (signs : List Sign) (words : List (Bor (List ℕ))) (before : List A) (z : A) (s : Sign) (w : Bor (List ℕ)) → length before < length signs → length before < length words → s ≡ get_or signs (length before) s → w ≡ get_or words (length before) w
    → meets s w.now ≡ true → all_meet (drop (length before) signs) (drop (length before) words) ≡ all_meet signs words
    → all_meet (drop (length (before ++ z ∷ [])) signs) (drop (length (before ++ z ∷ [])) words) ≡ all_meet signs words
met signs words before z s w l m e f passes so_far =
    let i = length before in
    rw (length_push before z) (sym (meet_more signs words i s w l m e f ∙ ap (λ b. b && all_meet (drop (i + 1) signs) (drop (i + 1) words)) passes) ∙ so_far)

nothing_asked : (signs : List Sign) → all_meet signs [] ≡ true
nothing_asked [] = refl
nothing_asked (s ∷ signs) = refl

-- all words
pub all_met : (signs : List Sign) (words : List (Bor (List ℕ))) (i : ℕ) → i ≡ min (length signs) (length words) → all_meet (drop i signs) (drop i words) ≡ all_meet signs words → true ≡ all_meet signs words
all_met signs words i e so_far =
    let ended : all_meet (drop i signs) (drop i words) ≡ true =
    ⊎_elim (λ l. at_drop_all (λ xs. all_meet xs (drop i words)) signs i (omega arith))
    (λ g. at_drop_all (λ ys. all_meet (drop i signs) ys) words i (omega arith) ∙ nothing_asked (drop i signs)) (cases_lt (length signs) (length words)) in
    sym ended ∙ so_far

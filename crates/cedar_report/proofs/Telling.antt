-- Findings, one by one.
use Rattle.std.proofs.Common.{◌≡◌, ◌≤◌, ℕ, zero, suc, ◌+◌, ◌<◌, List, [], ◌∷◌, ◌++◌, length, take, get_or, sym, ap, ◌∙◌, subst, refl, arith, Option, Some}
use Rattle.std.proofs.lemmas.List.{take_more, length_push}
use Rattle.cedar_syntax.specs.declared.err.faults.ParseError.{ParseError}
use Rattle.cedar_report.specs.declared.finding.Finding.{Finding}
use Rattle.cedar_report.specs.declared.finding.Extent.{Extent}
use Rattle.cedar_report.specs.Findings.{TellsFault, AreTold, IsSeen, IsSeenAt}

-- one more at the end
told_push : (text : List ℕ) (fs : List ParseError) (xs : List Finding) (f : ParseError) (x : Finding) → AreTold text fs xs → TellsFault text f x → AreTold text (fs ++ f ∷ []) (xs ++ x ∷ [])
told_push text [] [] f x h t = (t, tt)
told_push text (g ∷ fs) (y ∷ xs) f x h t = (h.0, told_push text fs xs f x h.1 t)
told_push text [] (y ∷ xs) f x h t = absurd h
told_push text (g ∷ fs) [] f x h t = absurd h

told_next : (text : List ℕ) (fs : List ParseError) (i : ℕ) (f : ParseError) (xs : List Finding) (x : Finding) → i < length fs → f ≡ get_or fs i f → AreTold text (take i fs) xs → TellsFault text f x
    → AreTold text (take (i + 1) fs) (xs ++ x ∷ [])
told_next text fs i f xs x l e h t =
    let P : List ParseError → Type 0 = λ gs. AreTold text gs (xs ++ x ∷ []) in
    subst P (ap (λ g. take i fs ++ g ∷ []) e ∙ sym (take_more fs i f l)) (told_push text (take i fs) xs f x h t)

-- the step of a loop over the faults
pub told_more : {A : Type 0} (text : List ℕ) (fs : List ParseError) (before : List A) (z : A) (f : ParseError) (xs ys : List Finding) (x : Finding) → length before < length fs → f ≡ get_or fs (length before) f
    → AreTold text (take (length before) fs) xs → TellsFault text f x → ys ≡ xs ++ x ∷ [] → AreTold text (take (length (before ++ z ∷ [])) fs) ys
told_more text fs before z f xs ys x l e h t p =
    rw p (rw (length_push before z) (told_next text fs (length before) f xs x l e h t))

take_whole : {X : Type 0} (xs : List X) (i : ℕ) → length xs ≤ i → take i xs ≡ xs
take_whole [] zero h = refl
take_whole [] (suc i) h = refl
take_whole (x ∷ xs) zero h = absurd (omega arith)
take_whole (x ∷ xs) (suc i) h = ap (λ t. x ∷ t) (take_whole xs i (omega arith))

-- its end
pub told_whole : (text : List ℕ) (fs : List ParseError) (i : ℕ) (xs : List Finding) → i ≡ length fs → AreTold text (take i fs) xs → AreTold text fs xs
told_whole text fs i xs e h =
    let P : List ParseError → Type 0 = λ gs. AreTold text gs xs in
    subst P (take_whole fs i (omega arith)) h

-- a range that is these bytes
pub seen_at : (text : List ℕ) (start end : ℕ) (x : Option Extent) (e : Extent) → x ≡ Some e → e.start ≡ start → e.end ≡ end → IsSeen text e → IsSeenAt text start end x
seen_at text start end x e p a b h = rw p (a, b, h)

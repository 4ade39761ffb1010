-- A string is read to its closing quote, from mark to mark: a mark is a quote or a backslash, which
-- takes a byte with it.
use Rattle.std.proofs.Common.{◌≡◌, ℕ, zero, suc, ◌+◌, ◌<◌, ◌≤◌, true, false, List, [], ◌∷◌, Some, None, length, get_or, drop, refl, ap, ◌∙◌, arith, ne_eqb}
use Rattle.std.proofs.lemmas.List.{drop_more, drop-drop, length-drop}
use Rattle.memchr.specs.Find.{Nowhere, NoneBefore, Passes, is_byte2}
use Rattle.cedar_lexer.specs.Scan.{string_len}

pub none_left : (bs : List ℕ) (k n : ℕ) → length bs ≤ k → string_len false (drop k bs) n ≡ None
none_left [] zero n l = refl
none_left [] (suc k) n l = refl
none_left (b ∷ bs) zero n l = absurd (omega arith)
none_left (b ∷ bs) (suc k) n l = none_left bs k n (omega arith)

none_taken : (bs : List ℕ) (k n : ℕ) → length bs ≤ k → string_len true (drop k bs) n ≡ None
none_taken [] zero n l = refl
none_taken [] (suc k) n l = refl
none_taken (b ∷ bs) zero n l = absurd (omega arith)
none_taken (b ∷ bs) (suc k) n l = none_taken bs k n (omega arith)

pub quote_closes : (bs : List ℕ) (k n : ℕ) → k < length bs → get_or bs k 0 ≡ 34 → string_len false (drop k bs) n ≡ Some (n + 1)
quote_closes bs k n l e = rw (drop_more bs k 0 l, e) refl

-- no byte of a run is a mark
run_passes : (bs : List ℕ) (n len : ℕ) → len ≤ length bs → Nowhere (Passes (is_byte2 34 92) bs) 0 len → string_len false bs n ≡ string_len false (drop len bs) (n + len)
run_passes bs n zero l h = ap (string_len false bs) (omega arith)
run_passes [] n (suc len) l h = absurd (omega arith)
run_passes (b ∷ bs) n (suc len) l h =
    let unmarked = h 0 (omega arith) (omega arith) in
    rw (ne_eqb b 34 (λ e. unmarked (rw e refl)), ne_eqb b 92 (λ e. unmarked (rw e refl)))
    (run_passes bs (n + 1) len (omega arith) (λ k low high. h (suc k) (omega arith) (omega arith)) ∙ ap (string_len false (drop len bs)) (omega arith))

-- the first mark from k on stands len bytes further on
abbrev pub IsNextMark : List ℕ → ℕ → ℕ → Type 0
IsNextMark bs k len =
    NoneBefore (Passes (is_byte2 34 92) (drop k bs)) 0 (length (drop k bs)) len
    × Passes (is_byte2 34 92) (drop k bs) len

pub mark_within : (bs : List ℕ) (k len : ℕ) → IsNextMark bs k len → k + len < length bs
mark_within bs k len h =
    let high = h.0.high in
    omega (arith, length-drop k bs)

pub mark_passes : (bs : List ℕ) (k n len : ℕ) → IsNextMark bs k len → string_len false (drop k bs) n ≡ string_len false (drop (k + len) bs) (n + len)
mark_passes bs k n len h =
    let high = h.0.high in
    run_passes (drop k bs) n len (omega arith) h.0.before ∙ ap (λ xs. string_len false xs (n + len)) (drop-drop len k bs)

pub no_mark : (bs : List ℕ) (k n : ℕ) → Nowhere (Passes (is_byte2 34 92) (drop k bs)) 0 (length (drop k bs)) → string_len false (drop k bs) n ≡ None
no_mark bs k n h =
    run_passes (drop k bs) n (length (drop k bs)) (omega arith) h ∙ none_left (drop k bs) (length (drop k bs)) (n + length (drop k bs)) (omega arith)

slash_takes : (bs : List ℕ) (k n : ℕ) → k < length bs → get_or bs k 0 ≡ 92 → string_len false (drop k bs) n ≡ string_len true (drop (k + 1) bs) (n + 1)
slash_takes bs k n l e = rw (drop_more bs k 0 l, e) refl

taken : (bs : List ℕ) (k n : ℕ) → k < length bs → string_len true (drop k bs) n ≡ string_len false (drop (k + 1) bs) (n + 1)
taken bs k n l = rw (drop_more bs k 0 l) refl

-- a backslash and the byte behind it, if there is one
pub slash_passes : (bs : List ℕ) (k n : ℕ) → get_or bs k 0 ≡ 92 → k + 2 ≤ length bs → string_len false (drop k bs) n ≡ string_len false (drop (k + 2) bs) (n + 2)
slash_passes bs k n e l =
    slash_takes bs k n (omega arith) e ∙ taken bs (k + 1) (n + 1) (omega arith)
    ∙ (ap (λ i. string_len false (drop i bs) (n + 1 + 1)) (omega arith) ∙ ap (string_len false (drop (k + 2) bs)) (omega arith))

pub slash_ends : (bs : List ℕ) (k n : ℕ) → k < length bs → get_or bs k 0 ≡ 92 → length bs < k + 2 → string_len false (drop k bs) n ≡ None
slash_ends bs k n l e h = slash_takes bs k n l e ∙ none_taken bs (k + 1) (n + 1) (omega arith)

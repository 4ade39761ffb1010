-- A line is as long as the run of bytes before the first that ends one.
use Rattle.std.proofs.Common.{◌≡◌, ℕ, ◌<◌, true, List, length, get_or, sym, arith, inl, inr}
use Rattle.std.specs.List.{prefix_len}
use Rattle.std.proofs.lemmas.Bool.{cases_order, not-false, not-true, both_ways}
use Rattle.std.proofs.lemmas.List.Sums.{prefix_len-le-length, prefix_len_passes, prefix_len_stops}
use Rattle.memchr.specs.Find.{Nowhere, NoneBefore, Passes, is_byte2}
use Rattle.cedar_lexer.specs.Cut.{is_line_end, is_in_line}

-- no byte of the run ends a line
in_run : (bs : List ℕ) (k : ℕ) → k < prefix_len is_in_line bs → is_line_end (get_or bs k 0) ≡ true → ⊥
in_run bs k h e = both_ways (is_line_end (get_or bs k 0)) (not-true (is_line_end (get_or bs k 0)) (prefix_len_passes is_in_line bs k 0 h)) e

-- the byte behind it does
behind_run : (bs : List ℕ) → prefix_len is_in_line bs < length bs → is_line_end (get_or bs (prefix_len is_in_line bs) 0) ≡ true
behind_run bs h = not-false (is_line_end (get_or bs (prefix_len is_in_line bs) 0)) (prefix_len_stops is_in_line bs 0 h)

pub line_found : (bs : List ℕ) (k : ℕ) → NoneBefore (Passes (is_byte2 10 13) bs) 0 (length bs) k → Passes (is_byte2 10 13) bs k → k ≡ prefix_len is_in_line bs
line_found bs k h e = elim (cases_order k (prefix_len is_in_line bs)) [
  | inl same ↦ same
  | inr (inl less) ↦ absurd (in_run bs k less e)
  | inr (inr more) ↦
      let a = h.high in
      absurd (h.before (prefix_len is_in_line bs) (omega arith) more (behind_run bs (omega arith)))
]

pub no_line_end : (bs : List ℕ) → Nowhere (Passes (is_byte2 10 13) bs) 0 (length bs) → length bs ≡ prefix_len is_in_line bs
no_line_end bs h = elim (cases_order (prefix_len is_in_line bs) (length bs)) [
  | inl same ↦ sym same
  | inr (inl less) ↦ absurd (h (prefix_len is_in_line bs) (omega arith) less (behind_run bs less))
  | inr (inr more) ↦ absurd (omega (arith, prefix_len-le-length is_in_line bs))
]

-- The line of a comment ends at a line's end; each blank byte at its end is taken away.
use Rattle.std.proofs.Common.{◌≡◌, ℕ, zero, suc, ◌-◌, ◌<◌, ◌≤◌, true, false, List, [], ◌∷◌, ◌++◌, length, take, drop, get_or, refl, sym, ap, ◌∙◌, subst, arith}
use Rattle.std.specs.List.{prefix_len}
use Rattle.std.proofs.lemmas.Bool.Decides.{nat_tests}
use Rattle.std.proofs.lemmas.List.{drop_more}
use Rattle.cedar_lexer.specs.Cut.{is_in_line, is_line_end, EndsLine}
use Rattle.cedar_lexer.proofs.Skips.{line_ends}
use Rattle.cedar_layout.specs.Pieces.{trimmed, is_blank_byte}
use Rattle.cedar_layout.proofs.GapBytes.{trimmed_blank, trimmed_visible}
use Rattle.cedar_layout.proofs.reading.comment_len.Goals as goal

low : (b : ℕ) → is_line_end b ≡ true → b < 128
low b e = grind (arith, nat_tests)

line_end_low : (bs : List ℕ) (n : ℕ) → n ≡ prefix_len is_in_line bs → n < length bs → get_or bs n 0 < 128
line_end_low bs n e within = low (get_or bs n 0) (subst EndsLine (drop_more bs n 0 within) (subst (λ k. EndsLine (drop k bs)) (sym e) (line_ends bs)))

take_last : (bs : List ℕ) (n : ℕ) → n < length bs → take (suc n) bs ≡ take n bs ++ get_or bs n 0 ∷ []
take_last [] n within = absurd (omega (arith, within))
take_last (b ∷ bs) zero within = refl
take_last (b ∷ bs) (suc n) within = ap (λ t. b ∷ t) (take_last bs n (omega (arith, within)))

take_end : (bs : List ℕ) (n : ℕ) → 0 < n → n ≤ length bs → take n bs ≡ take (n - 1) bs ++ get_or bs (n - 1) 0 ∷ []
take_end bs n some within =
    let e : n ≡ suc (n - 1) = omega (arith, some) in
    ap (λ k. take k bs) e ∙ take_last bs (n - 1) (omega (arith, some, within))

shorter : (bs whole : List ℕ) (n : ℕ) → 0 < n → n ≤ length bs → is_blank_byte (get_or bs (n - 1) 0) ≡ true → trimmed (take n bs) ≡ whole → trimmed (take (n - 1) bs) ≡ whole
shorter bs whole n some within blank e = sym (ap trimmed (take_end bs n some within) ∙ trimmed_blank (take (n - 1) bs) (get_or bs (n - 1) 0) blank) ∙ e

done : (bs whole : List ℕ) (n : ℕ) → 0 < n → n ≤ length bs → is_blank_byte (get_or bs (n - 1) 0) ≡ false → trimmed (take n bs) ≡ whole → take n bs ≡ whole
done bs whole n some within visible e = take_end bs n some within ∙ (sym (ap trimmed (take_end bs n some within) ∙ trimmed_visible (take (n - 1) bs) (get_or bs (n - 1) 0) visible) ∙ e)

blank_low : (b : ℕ) → is_blank_byte b ≡ true → b < 128
blank_low b e = grind (arith, nat_tests)

pub loop-end-init : goal.loop-end-init
loop-end-init c = (
  ap (λ n. trimmed (take n c.args.text.now)) c.line_len-end.ensures.len,
  c.line_len-end.ensures.within,
  line_end_low c.args.text.now c.line_len-end.result c.line_len-end.ensures.len,
)

pub loop-end-preserved : goal.loop-end-preserved
loop-end-preserved c =
    let blank : is_blank_byte (get_or c.args.text.now (c.loop-end.end - 1) 0) ≡ true = sym c.is_blank_byte.ensures ∙ c.if-is_blank_byte.true in (
      shorter c.args.text.now _ c.loop-end.end c.loop-end-test.true c.loop-end.invariant.1 blank c.loop-end.invariant.0,
      omega (arith, c.loop-end.invariant.1),
      λ within. blank_low (get_or c.args.text.now (c.loop-end.end - 1) 0) blank,
    )

pub returns-else-is_blank_byte-clause-text : goal.returns-else-is_blank_byte-clause-text
returns-else-is_blank_byte-clause-text c =
    done c.args.text.now _ c.loop-end.end c.loop-end-test.true c.loop-end.invariant.1 (sym c.is_blank_byte.ensures ∙ c.if-is_blank_byte.false) c.loop-end.invariant.0

-- A backslash takes a byte with it; the search finds the next mark, or that there is none.
use Rattle.std.proofs.Common.{◌≡◌, ◌+◌, ◌<◌, false, length, get_or, drop, ap, ◌∙◌, subst, sym, arith}
use Rattle.std.proofs.lemmas.Grind.{common_steps}
use Rattle.std.proofs.lemmas.List.{take_rest}
use Rattle.memchr.specs.Find.{Nowhere, NoneBefore, Passes, is_byte2}
use Rattle.cedar_lexer.specs.Scan.{string_len, string_of}
use Rattle.cedar_lexer.proofs.Quotes.{IsNextMark, mark_within, mark_passes, no_mark, slash_passes, slash_ends}
use Rattle.cedar_lexer.proofs.scan.string.Goals as goal

pub loop-byte-preserved-in-92 : goal.loop-byte-preserved-in-92
loop-byte-preserved-in-92 c =
    let within : c.loop-byte.at < length c.args.text.now = grind (arith, common_steps) in
    let slash : get_or c.args.text.now c.loop-byte.at 0 ≡ 92 = grind (arith, common_steps) in
    let before = c.loop-byte.invariant.0 (omega arith) in (
      (λ l. before ∙ (slash_passes c.args.text.now c.loop-byte.at (c.loop-byte.at + 1) slash l ∙ ap (string_len false (drop (c.loop-byte.at + 2) c.args.text.now)) (omega arith))),
      (λ l. before ∙ slash_ends c.args.text.now c.loop-byte.at (c.loop-byte.at + 1) within slash l),
    )

pub returns-in_err-at-in_default-2 : goal.returns-in_err-at-in_default-2
returns-in_err-at-in_default-2 c =
    let bs = c.args.text.now in
    let at = c.loop-byte.at in
    let within : at < length bs = grind (arith, common_steps) in
    let none = subst (λ w. Nowhere (Passes (is_byte2 34 92) w) 0 (length w)) (take_rest bs at) c.in_err-at-in_default-2.ensures in
    c.from_residual.ensures ∙ ap string_of (sym (c.loop-byte.invariant.0 (omega arith) ∙ no_mark bs at (at + 1) none))

pub loop-byte-preserved : goal.loop-byte-preserved
loop-byte-preserved c =
    let bs = c.args.text.now in
    let at = c.loop-byte.at in
    let len = c.in_ok-at-in_default-2.field-0 in
    let within : at < length bs = grind (arith, common_steps) in
    let mark : IsNextMark bs at len =
    subst (λ w. NoneBefore (Passes (is_byte2 34 92) w) 0 (length w) len × Passes (is_byte2 34 92) w len) (take_rest bs at) c.in_ok-at-in_default-2.ensures in
    let inside = mark_within bs at len mark in (
      (λ l. c.loop-byte.invariant.0 (omega arith) ∙ (mark_passes bs at (at + 1) len mark ∙ ap (string_len false (drop (at + len) bs)) (omega arith))),
      (λ l. absurd (omega arith)),
    )

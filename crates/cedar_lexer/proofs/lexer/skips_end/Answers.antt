-- Blanks alone, or blanks and what else is passed over.
use Rattle.std.proofs.Common.{◌≡◌, ◌<◌, false, get_or, drop, refl, sym, ap, ◌∙◌, arith, subst}
use Rattle.std.specs.Char.{is_whitespace}
use Rattle.std.proofs.lemmas.List.{get_or-drop}
use Rattle.cedar_lexer.proofs.Cuts.{laid_on}
use Rattle.cedar_lexer.proofs.Steps.{near_dark_here}
use Rattle.cedar_lexer.proofs.lexer.skips_end.Goals as goal

-- a byte that is no blank, of ASCII and no slash begins no skip
pub returns-then-first-ne47-clause-stops : goal.returns-then-first-ne47-clause-stops
returns-then-first-ne47-clause-stops c =
    let here : get_or (drop c.blanks_end-at.result c.args.text.now) 0 0 ≡ get_or c.args.text.now c.blanks_end-at.result 0 =
    get_or-drop c.blanks_end-at.result c.args.text.now 0 0 ∙ ap (λ n. get_or c.args.text.now n 0) (omega arith) in
    let byte : c.byte_at-first.result ≡ get_or c.args.text.now c.blanks_end-at.result 0 = c.byte_at-first.ensures ∙ ap (λ t. get_or t c.blanks_end-at.result 0) c.as_bytes.ensures.value in
    let first : c.byte_at-first.result ≡ get_or (drop c.blanks_end-at.result c.args.text.now) 0 0 = byte ∙ sym here in
    let dark = c.blanks_end-at.ensures.stops (subst (λ x. x < 128) byte c.if-first-lt128.true) in
    (near_dark_here (drop c.blanks_end-at.result c.args.text.now) (subst (λ x. x < 128) first c.if-first-lt128.true) (subst (λ x. is_whitespace x ≡ false) (sym here) dark) (λ p q. c.if-first-ne47.true (first ∙ p))).none refl

pub returns-clause-laid : goal.returns-clause-laid
returns-clause-laid c = laid_on c.blanks_end-at.ensures.laid c.any_skips_end.ensures.laid

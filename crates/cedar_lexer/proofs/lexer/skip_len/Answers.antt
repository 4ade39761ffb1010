-- The first bytes tell which skip starts, if one does.
use Rattle.std.proofs.Common.{◌≡◌, ◌<◌, get_or, drop, sym, ap, ◌∙◌, subst, true, false}
use Rattle.std.specs.Char.{is_whitespace}
use Rattle.std.specs.List.{prefix_len}
use Rattle.std.proofs.lemmas.List.{take_rest}
use Rattle.cedar_lexer.specs.Cut.{is_in_line}
use Rattle.cedar_lexer.proofs.Steps.{near_space_here, near_dark_here, comment_skip}
use Rattle.cedar_lexer.proofs.lexer.skip_len.Goals as goal
use Rattle.cedar_lexer.proofs.lexer.skip_len.Goals.{else-first-eq47-via-then-first-eq47+else-byte_at-eq47, else-first-eq47-via-else-first-eq47}

pub returns-then-is_whitespace : goal.returns-then-is_whitespace
returns-then-is_whitespace c =
    let first : c.byte_at-first.result ≡ get_or c.args.text.now 0 0 = c.byte_at-first.ensures ∙ ap (λ t. get_or t 0 0) c.as_bytes-bytes.ensures.value in
    let white : is_whitespace c.byte_at-first.result ≡ true = subst (λ x. is_whitespace x ≡ true) c.from.ensures (sym c.is_whitespace.ensures ∙ c.if-is_whitespace.true) in
    near_space_here c.args.text.now (subst (λ x. x < 128) first c.if-first-ge128.false) (subst (λ x. is_whitespace x ≡ true) first white)

pub returns-then-byte_at-eq47 : goal.returns-then-byte_at-eq47
returns-then-byte_at-eq47 c =
    let first : c.byte_at-first.result ≡ get_or c.args.text.now 0 0 = c.byte_at-first.ensures ∙ ap (λ t. get_or t 0 0) c.as_bytes-bytes.ensures.value in
    let second : c.byte_at.result ≡ get_or c.args.text.now 1 0 = c.byte_at.ensures ∙ ap (λ t. get_or t 1 0) c.as_bytes-bytes.ensures.value in
    comment_skip c.args.text.now c.line_len.result (sym first ∙ c.if-first-eq47.true) (sym second ∙ c.if-byte_at-eq47.true)
    (c.line_len.ensures.len ∙ (ap (prefix_len is_in_line) (take_rest c.as_bytes-bytes.result.now 2) ∙ ap (λ t. prefix_len is_in_line (drop 2 t)) c.as_bytes-bytes.ensures.value))

pub returns-else-first-eq47 : goal.returns-else-first-eq47
returns-else-first-eq47 c =
    let first : c.byte_at-first.result ≡ get_or c.args.text.now 0 0 = c.byte_at-first.ensures ∙ ap (λ t. get_or t 0 0) c.as_bytes-bytes.ensures.value in
    let dark : is_whitespace c.byte_at-first.result ≡ false = subst (λ x. is_whitespace x ≡ false) c.from.ensures (sym c.is_whitespace.ensures ∙ c.if-is_whitespace.false) in
    near_dark_here c.args.text.now (subst (λ x. x < 128) first c.if-first-ge128.false) (subst (λ x. is_whitespace x ≡ false) first dark)
    (λ p q. elim c.else-first-eq47.branch [
      | else-first-eq47-via-then-first-eq47+else-byte_at-eq47 w ↦ w.if-byte_at-eq47.false (w.byte_at.ensures ∙ (ap (λ t. get_or t 1 0) c.as_bytes-bytes.ensures.value ∙ q))
      | else-first-eq47-via-else-first-eq47 w ↦ w.if-first-eq47.false (first ∙ p)
    ])

use Rattle.std.proofs.Common.{sym, ◌∙◌, subst, true≢false, string_bytes}
use Rattle.cedar_command.specs.Request.{IsStyle}
use Rattle.cedar_command.proofs.Naming.{one_fails, one_passes}
use Rattle.cedar_command.proofs.request.are_styles.Goals as goal

pub returns-then-not-is_style : goal.returns-then-not-is_style
returns-then-not-is_style c =
    let fails : ¬ IsStyle (string_bytes c.word-item.result) = λ s. true≢false (sym (c.is_style.ensures.1 (subst IsStyle (sym c.as_str.ensures.value) s)) ∙ c.if-not-is_style.true) in (
      λ f. absurd (true≢false (sym f)),
      λ all. absurd (one_fails (λ word. IsStyle (string_bytes word)) c.args.words.now c.loop-word.word-index c.word-item.result c.loop-word-test.true c.word-item.is c.loop-word.invariant fails all),
    )

pub loop-word-preserved : goal.loop-word-preserved
loop-word-preserved c =
    one_passes (λ word. IsStyle (string_bytes word)) c.args.words.now c.loop-word.word-index c.word-item.result c.loop-word-test.true c.word-item.is c.loop-word.invariant
    (subst IsStyle c.as_str.ensures.value (c.is_style.ensures.0 c.if-not-is_style.false))

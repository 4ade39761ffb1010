-- One more blank.
use Rattle.std.proofs.Common.{◌≡◌, ◌+◌, ◌<◌, true, get_or, drop, sym, ap, ◌∙◌, subst, arith}
use Rattle.std.specs.Char.{is_whitespace}
use Rattle.std.proofs.lemmas.List.{get_or-drop}
use Rattle.cedar_lexer.specs.Cut.{nothing}
use Rattle.cedar_lexer.proofs.Steps.{near_space_here, passed_skip}
use Rattle.cedar_lexer.proofs.lexer.blanks_end.Goals as goal

pub loop-bytes-init : goal.loop-bytes-init
loop-bytes-init c = record { laid = nothing; onward = omega arith; boundary = c.requires }

pub loop-bytes-preserved : goal.loop-bytes-preserved
loop-bytes-preserved c =
    let here : c.loop-bytes.at ≡ c.loop-bytes.at + 0 = omega arith in
    let first : c.byte_at.result ≡ get_or (drop c.loop-bytes.at c.args.text.now) 0 0 =
    c.byte_at.ensures ∙ ap (λ t. get_or t c.loop-bytes.at 0) c.as_bytes-bytes.ensures.value
    ∙ ap (λ n. get_or c.args.text.now n 0) here ∙ sym (get_or-drop c.loop-bytes.at c.args.text.now 0 0) in
    let blank = c.is_blank.ensures.white c.loop-bytes-test.true in
    passed_skip c.args.text.now c.args.from c.loop-bytes.at 1 c.utf8.text c.loop-bytes.invariant
    (near_space_here (drop c.loop-bytes.at c.args.text.now) (subst (λ x. x < 128) first blank.0) (subst (λ x. is_whitespace x ≡ true) first blank.1)) (omega arith)

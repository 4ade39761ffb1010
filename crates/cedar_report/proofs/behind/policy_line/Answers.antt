use Rattle.std.proofs.Common.{◌≡◌, ◌-◌, sym, ap, ◌∙◌, arith, length, take, drop, get_or}
use Rattle.std.specs.Prelude.{◌&&◌}
use Rattle.std.proofs.lemmas.List.{take_rest}
use Rattle.cedar_report.specs.Behind.{begins_policy}
use Rattle.cedar_report.proofs.Margins.{one_passed}
use Rattle.cedar_report.proofs.behind.policy_line.Goals as goal

pub loop-at-preserved : goal.loop-at-preserved
loop-at-preserved c =
    let text = c.args.text.now in
    let bytes = c.as_bytes-bytes.result.now in
    let at = c.loop-at.at in
    let rest : take (length bytes - at) (drop at bytes) ≡ drop at text = take_rest bytes at ∙ ap (drop at) c.as_bytes-bytes.ensures.value in
    one_passed text c.args.from at c.loop-at.is_margin c.margin_behind-is_margin.result (get_or bytes at 0) c.loop-at.invariant (omega arith) (omega arith) (ap (λ x. get_or x at 0) c.as_bytes-bytes.ensures.value)
    (ap (λ x. c.loop-at.is_margin && begins_policy x) (sym rest) ∙ sym c.begins_line.ensures ∙ c.if-begins_line.false) c.margin_behind-is_margin.ensures

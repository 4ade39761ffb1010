use Rattle.std.proofs.Common.{◌≡◌, ◌+◌, ◌-◌, ◌^◌, length, min, ◌∙◌}
use Rattle.std.specs.FinMap.{values}
use Rattle.std.proofs.lemmas.Iterator.Consumers.{count_from_yields_List, YieldsList-from_rest}
use Rattle.cedar_tool.proofs.lines.set_size.Goals as goal

pub returns : goal.returns
returns c =
    let set = c.args.set.now in
    let statics : c.count.result ≡ length (values set.policies) = count_from_yields_List _ c.count.result c.count.ensures.ran (YieldsList-from_rest (values set.policies) c.static_policies.ensures) in
    let templates : c.count-templates.result ≡ length (values set.templates) = count_from_yields_List _ c.count-templates.result c.count-templates.ensures.ran (YieldsList-from_rest (values set.templates) c.templates.ensures) in
    c.saturating_add.ensures ∙ (λ i. min (statics i + templates i) (2 ^ 64 - 1))

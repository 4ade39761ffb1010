use Rattle.std.proofs.Common.{sym, ap, ◌∙◌}
use Rattle.std.specs.FinMap as map
use Rattle.cedar_policy_store.proofs.MapsByText.{len-map_in}
use Rattle.cedar_policy_store.proofs.annotation.Annotations.len.Goals as goal

pub returns : goal.returns
returns c = c.len.ensures.len ∙ sym (len-map_in c.self.inside.by_key c.self.invariant) ∙ ap (λ m. map.len m) c.self.view_is

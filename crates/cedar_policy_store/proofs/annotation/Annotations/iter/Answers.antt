use Rattle.std.proofs.Common.{sym, ap, ◌∙◌}
use Rattle.std.specs.FinMap as map
use Rattle.cedar_policy_store.proofs.MapsByText.{entries-map_in}
use Rattle.cedar_policy_store.proofs.annotation.Annotations.iter.Goals as goal

pub returns : goal.returns
returns c = c.iter.ensures.rest ∙ sym (entries-map_in c.self.inside.by_key c.self.invariant) ∙ ap (λ m. map.entries m) c.self.view_is

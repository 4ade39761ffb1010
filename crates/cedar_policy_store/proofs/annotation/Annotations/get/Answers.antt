use Rattle.std.proofs.Common.{sym, ap, ◌∙◌}
use Rattle.std.specs.FinMap as map
use Rattle.cedar_policy_store.proofs.MapsByText.{get-map_in}
use Rattle.cedar_policy_store.proofs.annotation.Annotations.get.Goals as goal

pub returns : goal.returns
returns c =
    c.get.ensures.value ∙ sym (get-map_in c.self.inside.by_key c.args.key.now c.self.invariant) ∙ ap (λ m. map.get m c.args.key.now) c.self.view_is

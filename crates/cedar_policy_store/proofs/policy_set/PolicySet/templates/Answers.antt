use Rattle.std.proofs.Common.{sym, ap, ◌∙◌}
use Rattle.std.specs.FinMap as map
use Rattle.cedar_policy_store.proofs.MapsByText.{values-map_in}
use Rattle.cedar_policy_store.proofs.policy_set.PolicySet.templates.Goals as goal

pub returns : goal.returns
returns c = c.values.ensures.rest ∙ sym (values-map_in c.self.inside.templates c.self.invariant.1) ∙ ap (λ s. map.values s.templates) c.self.view_is

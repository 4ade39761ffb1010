use Rattle.std.proofs.Common.{sym, ap, ◌∙◌}
use Rattle.std.specs.FinMap as map
use Rattle.cedar_policy_store.proofs.MapsByText.{len-map_in}
use Rattle.cedar_policy_store.proofs.policy_set.PolicySetDisplay.fmt.Goals as goal

pub returns-clause-writes : goal.returns-clause-writes
returns-clause-writes g c =
    let policies = c.len.ensures.len ∙ sym (len-map_in c.self.inside.policies c.self.invariant.0) ∙ ap (λ s. map.len s.policies) c.self.view_is in
    let templates = c.len-2.ensures.len ∙ sym (len-map_in c.self.inside.templates c.self.invariant.1) ∙ ap (λ s. map.len s.templates) c.self.view_is in
    λ plain ok. rw (← policies, ← templates) (c.write.ensures.writes plain ok)

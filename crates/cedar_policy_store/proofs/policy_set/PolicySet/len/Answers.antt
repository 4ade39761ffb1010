use Rattle.std.proofs.Common.{sym, ap, ap₂, ◌∙◌, ◌+◌, ℕ}
use Rattle.std.specs.FinMap as map
use Rattle.cedar_policy_store.proofs.MapsByText.{len-map_in}
use Rattle.cedar_policy_store.proofs.policy_set.PolicySet.len.Goals as goal

pub returns : goal.returns
returns c =
    ap₂ (λ (a b : ℕ). a + b)
    (c.len-policies.ensures.len ∙ sym (len-map_in c.self.inside.policies c.self.invariant.0) ∙ ap (λ s. map.len s.policies) c.self.view_is)
    (c.len-templates.ensures.len ∙ sym (len-map_in c.self.inside.templates c.self.invariant.1) ∙ ap (λ s. map.len s.templates) c.self.view_is)

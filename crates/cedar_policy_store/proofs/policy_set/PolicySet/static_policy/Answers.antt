use Rattle.std.proofs.Common.{◌≡◌, sym, ap, ◌∙◌, subst, IfSome}
use Rattle.std.specs.FinMap as map
use Rattle.cedar_policy_store.proofs.MapsByText.{get-map_in}
use Rattle.cedar_policy_store.proofs.NamedPolicies.{named-lookup, lent_name}
use Rattle.cedar_policy_store.proofs.policy_set.PolicySet.static_policy.Goals as goal

pub returns-clause-policy : goal.returns-clause-policy
returns-clause-policy c =
    c.get.ensures.value ∙ sym (get-map_in c.self.inside.policies c.args.id.now c.self.invariant.0) ∙ ap (λ s. map.get s.policies c.args.id.now) c.self.view_is

pub returns-clause-named : goal.returns-clause-named
returns-clause-named c =
    lent_name c.get.result c.args.id.now
    (subst (λ found. IfSome found (λ v. v.id ≡ c.args.id.now)) (sym c.get.ensures.value) (named-lookup c.self.inside.policies.entries c.args.id.now c.self.invariant.2))

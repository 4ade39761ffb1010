use Rattle.std.proofs.Common.{◌≡◌, sym, ap, ◌∙◌, subst, IfSome}
use Rattle.std.specs.FinMap as map
use Rattle.cedar_policy_store.proofs.MapsByText.{get-map_in}
use Rattle.cedar_policy_store.proofs.NamedPolicies.{named-lookup, lent_name}
use Rattle.cedar_policy_store.proofs.policy_set.PolicySet.template.Goals as goal

pub returns-clause-template : goal.returns-clause-template
returns-clause-template c =
    c.get.ensures.value ∙ sym (get-map_in c.self.inside.templates c.args.id.now c.self.invariant.1) ∙ ap (λ s. map.get s.templates c.args.id.now) c.self.view_is

pub returns-clause-named : goal.returns-clause-named
returns-clause-named c =
    lent_name c.get.result c.args.id.now
    (subst (λ found. IfSome found (λ v. v.id ≡ c.args.id.now)) (sym c.get.ensures.value) (named-lookup c.self.inside.templates.entries c.args.id.now c.self.invariant.3))

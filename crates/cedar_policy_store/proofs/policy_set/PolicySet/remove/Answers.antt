use Rattle.std.proofs.Common.{◌≡◌, None, is_some, sym, ap, ◌∙◌, subst}
use Rattle.std.specs.FinMap as map
use Rattle.cedar_policy_store.specs.PolicyMaps.{StandByName, or_template}
use Rattle.cedar_policy_store.proofs.MapsByText.{get-map_in, map_in-remove, map_in-same}
use Rattle.cedar_policy_store.proofs.NamedPolicies.{named-remove}
use Rattle.cedar_policy_store.proofs.Removed.{left_policies, left_templates}
use Rattle.cedar_policy_store.proofs.policy_set.PolicySet.remove.Goals.{in-Some-remove, in-None-remove}
use Rattle.cedar_policy_store.proofs.policy_set.PolicySet.remove.Goals as goal

pub invariant_of-self : goal.invariant_of-self
invariant_of-self c =
    let named = subst StandByName (sym c.remove.ensures.entries) (named-remove _ c.self.inside.policies.entries c.self.invariant.2) in
    (c.remove.ensures.ordered, c.self.invariant.1, named, c.self.invariant.3)

pub invariant_of-self-in-None : goal.invariant_of-self-in-None
invariant_of-self-in-None c =
    let policies = subst StandByName (sym c.remove.ensures.entries) (named-remove _ c.self.inside.policies.entries c.self.invariant.2) in
    let templates = subst StandByName (sym c.remove-in-None.ensures.entries) (named-remove _ c.self.inside.templates.entries c.self.invariant.3) in
    (c.remove.ensures.ordered, c.remove-in-None.ensures.ordered, policies, templates)

pub returns-in-Some-clause-taken : goal.returns-in-Some-clause-taken
returns-in-Some-clause-taken c =
    let found = c.in-Some.ensures.value ∙ sym (get-map_in c.self.inside.policies c.args.id.now c.self.invariant.0) ∙ ap (λ s. map.get s.policies c.args.id.now) c.self.view_is in
    ap (λ o. or_template o (map.get c.args.self.now.templates c.args.id.now)) found

pub returns-in-Some-clause-left : goal.returns-in-Some-clause-left
returns-in-Some-clause-left c =
    let found = c.in-Some.ensures.value ∙ sym (get-map_in c.self.inside.policies c.args.id.now c.self.invariant.0) ∙ ap (λ s. map.get s.policies c.args.id.now) c.self.view_is in
    let removed = map_in-remove c.self.inside.policies c.remove.new.self c.args.id.now c.self.invariant.0 c.remove.ensures.ordered c.remove.ensures.updates.0 in
    (λ i. record {
      policies = (removed ∙ ap (λ s. map.remove s.policies c.args.id.now) c.self.view_is) i;
      templates = (c.self.view_is i).templates;
    }) ∙ left_policies c.args.self.now c.args.id.now (sym (ap is_some found))

pub returns-after-remove-2-clause-taken : goal.returns-after-remove-2-clause-taken
returns-after-remove-2-clause-taken c =
    let none = c.in-None.ensures.value ∙ sym (get-map_in c.self.inside.policies c.args.id.now c.self.invariant.0) ∙ ap (λ s. map.get s.policies c.args.id.now) c.self.view_is in
    let other = c.remove-in-None.ensures.value ∙ sym (get-map_in c.self.inside.templates c.args.id.now c.self.invariant.1) ∙ ap (λ s. map.get s.templates c.args.id.now) c.self.view_is in
    let own : c.match-remove-2.result ≡ or_template None c.remove-in-None.result = elim c.match-remove-2.branch [ in-Some-remove w ↦ w.result-is ∙ ap (or_template None) (sym w.in-Some-remove.is) | in-None-remove w ↦ w.result-is ∙ ap (or_template None) (sym w.in-None-remove.is) ] in
    own ∙ (λ i. or_template (none i) (other i))

pub returns-after-remove-2-clause-left : goal.returns-after-remove-2-clause-left
returns-after-remove-2-clause-left c =
    let none = c.in-None.ensures.value ∙ sym (get-map_in c.self.inside.policies c.args.id.now c.self.invariant.0) ∙ ap (λ s. map.get s.policies c.args.id.now) c.self.view_is in
    let same = map_in-same c.self.inside.policies c.remove.new.self c.in-None.ensures.unchanged in
    let removed = map_in-remove c.self.inside.templates c.remove-in-None.new.self c.args.id.now c.self.invariant.1 c.remove-in-None.ensures.ordered c.remove-in-None.ensures.updates.0 in
    (λ i. record {
      policies = (same ∙ ap (λ s. s.policies) c.self.view_is) i;
      templates = (removed ∙ ap (λ s. map.remove s.templates c.args.id.now) c.self.view_is) i;
    }) ∙ left_templates c.args.self.now c.args.id.now (sym (ap is_some none))

use Rattle.std.proofs.Common.{◌≡◌, refl, sym, ap, ◌∙◌, subst}
use Rattle.std.specs.BTreeMap.{insert_entry}
use Rattle.std.specs.FinMap as map
use Rattle.cedar_policy_store.specs.PolicyMaps.{StandByName}
use Rattle.cedar_policy_store.specs.TextMap.{text_order}
use Rattle.cedar_policy_store.proofs.MapsByText.{map_in-insert}
use Rattle.cedar_policy_store.proofs.NamedPolicies.{named-insert, with_copy}
use Rattle.cedar_policy_store.proofs.policy_set.PolicySet.add_static.Goals as goal

pub invariant_of-self-2 : goal.invariant_of-self-2
invariant_of-self-2 c =
    let old = c.self.inside.policies.entries in
    let added = with_copy (λ id. c.keep.new.map.entries ≡ insert_entry text_order old id c.args.policy) c.try_clone.result c.id-2.result.now c.in_ok-keep.ensures.ok c.try_clone.ensures in
    let entries = added ∙ ap (λ id. insert_entry text_order old id c.args.policy) c.id-2.ensures in
    let named = subst StandByName (sym entries) (named-insert old c.args.policy.id c.args.policy refl c.self.invariant.2) in
    (c.in_ok-keep.ensures.ordered, c.self.invariant.1, named, c.self.invariant.3)

pub returns-clause-added : goal.returns-clause-added
returns-clause-added c =
    let old = c.self.inside.policies in
    let added = with_copy (λ id. c.keep.new.map.entries ≡ insert_entry text_order old.entries id c.args.policy) c.try_clone.result c.id-2.result.now c.in_ok-keep.ensures.ok c.try_clone.ensures in
    let entries = added ∙ ap (λ id. insert_entry text_order old.entries id c.args.policy) c.id-2.ensures in
    let inserted = map_in-insert old c.keep.new.map c.args.policy.id c.args.policy c.self.invariant.0 c.in_ok-keep.ensures.ordered entries in
    λ i. record {
      policies = (inserted ∙ ap (λ s. map.insert s.policies c.args.policy.id c.args.policy) c.self.view_is) i;
      templates = (c.self.view_is i).templates;
    }

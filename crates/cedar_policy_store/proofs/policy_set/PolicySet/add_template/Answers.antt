use Rattle.std.proofs.Common.{◌≡◌, refl, sym, ap, ◌∙◌, subst}
use Rattle.std.specs.BTreeMap.{insert_entry}
use Rattle.std.specs.FinMap as map
use Rattle.cedar_policy_store.specs.PolicyMaps.{StandByName}
use Rattle.cedar_policy_store.specs.TextMap.{text_order}
use Rattle.cedar_policy_store.proofs.MapsByText.{map_in-insert}
use Rattle.cedar_policy_store.proofs.NamedPolicies.{named-insert, with_copy}
use Rattle.cedar_policy_store.proofs.policy_set.PolicySet.add_template.Goals as goal

pub invariant_of-self-2 : goal.invariant_of-self-2
invariant_of-self-2 c =
    let old = c.self.inside.templates.entries in
    let added = with_copy (λ id. c.keep.new.map.entries ≡ insert_entry text_order old id c.args.template) c.try_clone.result c.id-2.result.now c.in_ok-keep.ensures.ok c.try_clone.ensures in
    let entries = added ∙ ap (λ id. insert_entry text_order old id c.args.template) c.id-2.ensures in
    let named = subst StandByName (sym entries) (named-insert old c.args.template.id c.args.template refl c.self.invariant.3) in
    (c.self.invariant.0, c.in_ok-keep.ensures.ordered, c.self.invariant.2, named)

pub returns-clause-added : goal.returns-clause-added
returns-clause-added c =
    let old = c.self.inside.templates in
    let added = with_copy (λ id. c.keep.new.map.entries ≡ insert_entry text_order old.entries id c.args.template) c.try_clone.result c.id-2.result.now c.in_ok-keep.ensures.ok c.try_clone.ensures in
    let entries = added ∙ ap (λ id. insert_entry text_order old.entries id c.args.template) c.id-2.ensures in
    let inserted = map_in-insert old c.keep.new.map c.args.template.id c.args.template c.self.invariant.1 c.in_ok-keep.ensures.ordered entries in
    λ i. record {
      templates = (inserted ∙ ap (λ s. map.insert s.templates c.args.template.id c.args.template) c.self.view_is) i;
      policies = (c.self.view_is i).policies;
    }

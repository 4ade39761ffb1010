use Rattle.std.proofs.Common.{◌≡◌, ◌++◌, sym, ap, ◌∙◌, subst, append-nil}
use Rattle.std.specs.FinMap as finmap
use Rattle.std.specs.List.Sorted.{IsPermutation, IsSortedByKey}
use Rattle.std.proofs.lemmas.Iterator.Consumers.{YieldsList-from_rest, YieldsList-end}
use Rattle.cedar_policy_store.specs.IdOrder.{id_order}
use Rattle.cedar_policy_store.specs.Listing.{all_lent, lent_id, all_policies}
use Rattle.cedar_policy_store.proofs.Listed.{as_policies, as_templates, policies_now, templates_now}
use Rattle.cedar_policy_store.proofs.policy_set.PolicySet.iter.Goals as goal

pub loop-template-init : goal.loop-template-init
loop-template-init c =
    let t = YieldsList-end (YieldsList-from_rest {s = c.into_iter-policy-iterator.result} (finmap.values c.args.self.now.policies) (cc)) c.loop-policy.yielded c.loop-policy.policy-iterator c.loop-policy.yielded_by c.next.result c.next.new.self c.in-None.is c.next.ensures.steps in
    c.loop-policy.invariant ∙ policies_now c.loop-policy.yielded ∙ ap as_policies t.0 ∙ sym (append-nil (as_policies (finmap.values c.args.self.now.policies)))

pub returns : goal.returns
returns c =
    let t = YieldsList-end (YieldsList-from_rest {s = c.into_iter-template-iterator.result} (finmap.values c.args.self.now.templates) (cc)) c.loop-template.yielded c.loop-template.template-iterator c.loop-template.yielded_by c.next-in-loop-template.result c.next-in-loop-template.new.self c.in-None-template.is c.next-in-loop-template.ensures.steps in
    let whole : all_lent c.loop-template.all.items ≡ all_policies c.args.self.now =
    c.loop-template.invariant ∙ ap (λ l. as_policies (finmap.values c.args.self.now.policies) ++ l) (templates_now c.loop-template.yielded ∙ ap as_templates t.0)
    in (
      subst (λ xs. IsPermutation (all_policies c.args.self.now) (all_lent xs)) (sym c.into_iter.ensures.rest) (subst (λ l. IsPermutation l (all_lent c.sort_by_name.new.all.items)) whole c.sort_by_name.ensures.same),
      subst (λ xs. IsSortedByKey lent_id id_order xs) (sym c.into_iter.ensures.rest) c.in_ok-sort_by_name.ensures.sorted,
    )

use Rattle.std.proofs.Common.{◌≡◌, false, sym, ◌∙◌}
use Rattle.cedar_policy_store.specs.Links.{IsLinkRefusal}
use Rattle.cedar_policy_store.specs.PolicyMaps.{holds_id}
use Rattle.cedar_policy_store.proofs.Linked.{link_refused, refused_on, set_with_linked}
use Rattle.cedar_policy_store.proofs.policy_set.PolicySet.link.Goals as goal

pub returns-in_err-policy-clause-refused : goal.returns-in_err-policy-clause-refused
returns-in_err-policy-clause-refused c =
    let free : holds_id c.args.self.now c.args.id ≡ false = sym c.contains.ensures ∙ c.if-contains.false in
    refused_on c.from_residual-in_err-policy.result c.in_err-policy.field-0.0 (IsLinkRefusal c.args.self.now c.args.template.now c.args.id c.args.entities.now) c.from_residual-in_err-policy.ensures.1
    (link_refused c.args.self.now c.args.template.now c.args.id c.args.entities.now c.in-Some.found.now c.in_err-policy.field-0.0 c.in-Some.ensures.template free c.in_err-policy.ensures.refused)

pub returns-in-Ok-clause-added : goal.returns-in-Ok-clause-added
returns-in-Ok-clause-added c =
    let free : holds_id c.args.self.now c.args.id ≡ false = sym c.contains.ensures ∙ c.if-contains.false in
    set_with_linked c.args.self.now c.add_static.new.self c.args.template.now c.args.id c.args.entities.now c.in-Some.found.now c.in_ok-policy.policy c.in-Some.ensures.template free c.in_ok-policy.ensures.linked c.in-Ok.ensures.added

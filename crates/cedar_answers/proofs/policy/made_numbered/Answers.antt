use Rattle.std.proofs.Common.{Some, sym, ap, ◌∙◌}
use Rattle.std.specs.FinMap.{get}
use Rattle.cedar_answers.proofs.Numbering.{static_told, template_told, none_told}
use Rattle.cedar_answers.proofs.policy.made_numbered.Goals as goal

pub returns-in-Some : goal.returns-in-Some
returns-in-Some c =
    let set = c.args.set.now in
    static_told c.one_policy.result c.args.lines.now.text.now set c.args.count c.args.node.now c.as_template.result.now
    (ap (get set.policies) (sym c.in_ok-id.ensures) ∙ (sym c.in-Some.ensures.policy ∙ ap Some (sym c.as_template.ensures.same))) c.one_policy.ensures

pub returns-in-Some-template : goal.returns-in-Some-template
returns-in-Some-template c =
    let set = c.args.set.now in
    template_told c.one_policy-in-Some-template.result c.args.lines.now.text.now set c.args.count c.args.node.now c.in-Some-template.template.now
    (ap (get set.policies) (sym c.in_ok-id.ensures) ∙ sym c.in_default.ensures.policy)
    (ap (get set.templates) (sym c.in_ok-id.ensures) ∙ sym c.in-Some-template.ensures.template) c.one_policy-in-Some-template.ensures

pub returns : goal.returns
returns c =
    let set = c.args.set.now in
    none_told c.args.lines.now.text.now set c.args.count c.args.node.now
    (ap (get set.policies) (sym c.in_ok-id.ensures) ∙ sym c.in_default.ensures.policy)
    (ap (get set.templates) (sym c.in_ok-id.ensures) ∙ sym c.in-None.ensures.template)

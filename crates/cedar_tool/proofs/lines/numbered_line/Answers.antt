use Rattle.std.proofs.Common.{Some, sym, ap, ◌∙◌}
use Rattle.std.specs.FinMap.{get}
use Rattle.cedar_tool.proofs.Listing.{static_line, template_line, no_line}
use Rattle.cedar_tool.proofs.lines.numbered_line.Goals as goal

pub returns-in-Some : goal.returns-in-Some
returns-in-Some c =
    let set = c.args.set.now in
    static_line c.line_of.result c.args.name.now c.args.lines.now.text.now set c.args.number c.as_template.result.now
    (ap (get set.policies) (sym c.in_ok-id.ensures) ∙ (sym c.in-Some.ensures.policy ∙ ap Some (sym c.as_template.ensures.same))) c.line_of.ensures

pub returns-in-Some-template : goal.returns-in-Some-template
returns-in-Some-template c =
    let set = c.args.set.now in
    template_line c.line_of-in-Some-template.result c.args.name.now c.args.lines.now.text.now set c.args.number c.in-Some-template.template.now
    (ap (get set.policies) (sym c.in_ok-id.ensures) ∙ sym c.in_default.ensures.policy)
    (ap (get set.templates) (sym c.in_ok-id.ensures) ∙ sym c.in-Some-template.ensures.template) c.line_of-in-Some-template.ensures

pub returns : goal.returns
returns c =
    let set = c.args.set.now in
    no_line c.args.name.now c.args.lines.now.text.now set c.args.number _
    (ap (get set.policies) (sym c.in_ok-id.ensures) ∙ sym c.in_default.ensures.policy)
    (ap (get set.templates) (sym c.in_ok-id.ensures) ∙ sym c.in-None.ensures.template) c.new.ensures.bytes

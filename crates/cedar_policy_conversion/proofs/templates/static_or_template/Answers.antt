use Rattle.cedar_policy_conversion.specs.Policies.{template_outcome}
use Rattle.cedar_conversion.specs.strict.Table.{table_of}
use Rattle.cedar_policy_conversion.proofs.ConditionFree.{template_free}
use Rattle.cedar_policy_conversion.proofs.PolicySides.{no_slots, on_left, on_right}
use Rattle.cedar_policy_conversion.proofs.templates.static_or_template.Goals as goal

pub returns-in-Some : goal.returns-in-Some
returns-in-Some c =
    on_right (template_outcome (table_of c.args.styles.now) c.args.id c.args.node.now) c.in_ok-template.template c.in-Some.field-0 c.in_ok-template.ensures c.in-Some.ensures

pub of_static-requires : goal.of_static-requires
of_static-requires c =
    let t = c.in_ok-template.template in
    no_slots t (template_free (table_of c.args.styles.now) c.args.id c.args.node.now t c.in_ok-template.ensures) c.in-None.ensures

pub returns-in-None : goal.returns-in-None
returns-in-None c =
    on_left (template_outcome (table_of c.args.styles.now) c.args.id c.args.node.now) c.in_ok-template.template c.of_static.result c.in_ok-template.ensures c.of_static.ensures c.in-None.ensures

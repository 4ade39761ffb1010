use Rattle.std.proofs.Common.{ap}
use Rattle.cedar_policy_conversion.specs.Policies.{only_static, template_outcome, template_parts}
use Rattle.cedar_conversion.specs.strict.Table.{table_of}
use Rattle.cedar_policy_conversion.proofs.ConditionFree.{template_free}
use Rattle.cedar_conversion.proofs.Outcomes.{gives_at}
use Rattle.cedar_policy_conversion.proofs.templates.static_policy.Goals as goal

pub only_static-requires : goal.only_static-requires
only_static-requires c = template_free (table_of c.args.styles.now) c.args.id c.args.node.now c.in-Ok.template c.in-Ok.ensures

pub returns-in-Ok : goal.returns-in-Ok
returns-in-Ok c = gives_at template_parts c.only_static.result _ _ (ap (only_static c.args.node.now.loc) c.in-Ok.ensures) c.only_static.ensures

pub returns-in-Err : goal.returns-in-Err
returns-in-Err c =
    let given = c.in-Err.ensures in
    c.refused_static.ensures c.args.node.now.loc (template_outcome (table_of c.args.styles.now) c.args.id c.args.node.now) given

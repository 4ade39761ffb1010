use Rattle.std.proofs.Common.{ap, ◌∙◌}
use Rattle.cedar_syntax.specs.trees.Forms.{expr_form}
use Rattle.cedar_conversion.specs.machines.Nested.{nested_in}
use Rattle.cedar_conversion.proofs.Nested as inner
use Rattle.cedar_conversion.proofs.Outcomes.{refuses}
use Rattle.cedar_policy_conversion.proofs.LonePrimaries as lone
use Rattle.cedar_policy_conversion.proofs.single_primary.primary_of.Goals as goal

pub returns-in-Or : goal.returns-in-Or
returns-in-Or c = lone.comes _ _ c.or_primary.result (lone.only_expr c.args.node.now _ _ _ c.in-Some.is c.data_of.ensures c.in-Or.is)
    (inner.level expr_form c.args.node.now _ c.in-Some.is ∙ ap nested_in c.data_of.ensures ∙ inner.or_data _ _ c.in-Or.is) c.or_primary.ensures

pub returns-in-If : goal.returns-in-If
returns-in-If c = refuses c.form.result _ _ _ (lone.if_expr c.args.node.now _ _ _ _ _ c.in-Some.is c.data_of.ensures c.in-If.is) c.form.ensures

pub returns-in-None : goal.returns-in-None
returns-in-None c = refuses c.empty_node.result _ _ _ (lone.no_lone expr_form c.args.node.now c.in-None.is) c.empty_node.ensures

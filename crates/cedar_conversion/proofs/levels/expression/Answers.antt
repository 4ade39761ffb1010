use Rattle.std.proofs.Common.{ap, ◌∙◌}
use Rattle.cedar_conversion.specs.strict.Table.{table_of}
use Rattle.cedar_conversion.specs.machines.Nested.{nested_in}
use Rattle.cedar_syntax.specs.trees.Forms.{expr_form}
use Rattle.cedar_conversion.proofs.Outcomes.{gives_at}
use Rattle.cedar_conversion.proofs.Taken.{untaken, made}
use Rattle.cedar_conversion.proofs.Nodes as node
use Rattle.cedar_conversion.proofs.Nested as inner
use Rattle.cedar_conversion.proofs.levels.expression.Goals as goal

pub returns-in-Or : goal.returns-in-Or
returns-in-Or g c =
    made (inner.level expr_form c.args.node.now _ c.in-Some.is ∙ ap nested_in c.data_of-data.ensures ∙ inner.or_data _ _ c.in-Or.is) c.or.ensures
    (λ h. gives_at _ c.or.new.answers.answer _ _ (node.or_expr_node (table_of c.args.styles.now) c.args.node.now _ _ _ c.in-Some.is c.data_of-data.ensures c.in-Or.is) h)

pub returns-in-If : goal.returns-in-If
returns-in-If g c =
    made (inner.level expr_form c.args.node.now _ c.in-Some.is ∙ ap nested_in c.data_of-data.ensures) (c.conditional.ensures _ _ _ c.in-If.is)
    (λ h. gives_at _ c.conditional.new.answers.answer _ _ (node.data_node (table_of c.args.styles.now) c.args.node.now _ _ c.in-Some.is c.data_of-data.ensures) h)

pub returns-in-None : goal.returns-in-None
returns-in-None g c =
    made (inner.none expr_form c.args.node.now c.in-None.is) (untaken c.empty_node_in.ensures) (λ h. gives_at _ c.empty_node_in.new.answer _ _ (node.empty (table_of c.args.styles.now) expr_form c.args.node.now c.in-None.is) h)

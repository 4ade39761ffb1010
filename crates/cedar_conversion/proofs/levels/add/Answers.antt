use Rattle.cedar_conversion.specs.strict.Table.{table_of}
use Rattle.cedar_syntax.specs.trees.Forms.{add_form, mult_form}
use Rattle.cedar_conversion.proofs.Outcomes.{gives_at}
use Rattle.cedar_conversion.proofs.Taken.{untaken, made}
use Rattle.cedar_conversion.proofs.Nodes as node
use Rattle.cedar_conversion.proofs.Nested as inner
use Rattle.cedar_conversion.proofs.levels.add.Goals as goal

pub returns-in-Some-single_child : goal.returns-in-Some-single_child
returns-in-Some-single_child g c =
    let alone = rw c.in-Some-single_child.is at c.single_child.ensures.part in
    made (inner.part add_form mult_form c.args.node.now _ _ c.in-Some.is alone) c.mult.ensures (λ h. gives_at _ c.mult.new.answers.answer _ _ (node.part_node (table_of c.args.styles.now) add_form mult_form c.args.node.now _ _ c.in-Some.is alone) h)

pub returns-in-None-single_child : goal.returns-in-None-single_child
returns-in-None-single_child g c =
    made (inner.level add_form c.args.node.now _ c.in-Some.is) c.add_chain.ensures (λ h. gives_at _ c.add_chain.new.answers.answer _ _ (node.level_node (table_of c.args.styles.now) add_form c.args.node.now _ c.in-Some.is) h)

pub returns-in-None : goal.returns-in-None
returns-in-None g c =
    made (inner.none add_form c.args.node.now c.in-None.is) (untaken c.empty_node_in.ensures) (λ h. gives_at _ c.empty_node_in.new.answer _ _ (node.empty (table_of c.args.styles.now) add_form c.args.node.now c.in-None.is) h)

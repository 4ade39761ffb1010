use Rattle.std.proofs.Common.{◌∙◌}
use Rattle.cedar_conversion.specs.strict.Table.{table_of}
use Rattle.cedar_syntax.specs.trees.Forms.{init_form}
use Rattle.cedar_conversion.proofs.Outcomes.{gives_at, refuses}
use Rattle.cedar_conversion.proofs.Taken.{untaken, made, next_taken}
use Rattle.cedar_conversion.proofs.Nodes as node
use Rattle.cedar_conversion.proofs.Nested as inner
use Rattle.cedar_conversion.proofs.primaries.init.Goals as goal

pub returns-in-None : goal.returns-in-None
returns-in-None g c xs h =
    made (inner.none init_form c.args.node.now c.in-None.is) (untaken {X = Unit {0}} tt)
    (λ p. c.add_pair-in-None.ensures xs _ h (refuses c.empty_node.result _ _ _ (node.no_init_node (table_of c.args.styles.now) c.args.node.now c.in-None.is) c.empty_node.ensures))

pub returns-in-Some : goal.returns-in-Some
returns-in-Some g c xs h =
    made (inner.level init_form c.args.node.now _ c.in-Some.is ∙ inner.pair _) (next_taken c.answer.ensures (λ p. c.answer-in-Some.ensures))
    (λ p. c.add_pair.ensures xs _ h (gives_at _ c.pair_from.result _ _ (node.init_node (table_of c.args.styles.now) c.args.node.now _ c.in-Some.is) (c.pair_from.ensures _ _ (rw c.take-key.ensures p.0) (c.value_in-value.ensures _ p.1))))

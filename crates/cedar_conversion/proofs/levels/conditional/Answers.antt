use Rattle.cedar_conversion.specs.strict.Table.{table_of}
use Rattle.cedar_conversion.proofs.Outcomes.{gives_at}
use Rattle.cedar_conversion.proofs.Taken.{made, next_taken}
use Rattle.cedar_conversion.proofs.Nodes as node
use Rattle.cedar_conversion.proofs.Nested as inner
use Rattle.cedar_conversion.proofs.levels.conditional.Goals as goal

pub returns : goal.returns
returns g c x y z h =
    made (inner.if_data _ _ _ _ c.in-If.is)
    (next_taken c.answer.ensures (λ p. next_taken c.answer-2.ensures (λ q. c.answer-3.ensures)))
    (λ p. gives_at _ _ _ _ (node.if_data (table_of c.args.site.styles.now) c.args.site.loc.now c.args.tree.now _ _ _ c.in-If.is)
    (c.if_in.ensures _ _ _ (c.value_in-guard.ensures _ p.0) (c.value_in-consequent.ensures _ p.1.0) p.1.1))

use Rattle.cedar_conversion.specs.strict.Table.{table_of}
use Rattle.cedar_conversion.proofs.Outcomes.{given_in, gives_left}
use Rattle.cedar_conversion.proofs.Taken.{made, next_taken}
use Rattle.cedar_conversion.proofs.Nodes as node
use Rattle.cedar_conversion.proofs.Nested as inner
use Rattle.cedar_conversion.proofs.levels.is_in.Goals as goal

pub returns-in-None : goal.returns-in-None
returns-in-None g c a b d h =
    made (inner.type_alone _ _ _ _ c.in-IsIn.is c.in-None.is) (next_taken c.add.ensures (λ p. rw c.as_ref.ensures at c.add-2.ensures))
    (λ p. gives_left _ _ _ _ _ c.put.ensures (node.is_alone_node (table_of c.args.site.styles.now) c.args.site.loc.now c.args.relation.now _ _ _ c.in-IsIn.is c.in-None.is)
    (c.is_from.ensures _ (c.type_beside-pair.ensures _ _ (c.value_in-left.ensures _ p.0) (given_in _ _ _ _ c.take-right.ensures p.1))))

pub returns-in-Some : goal.returns-in-Some
returns-in-Some g c a b d h =
    made (inner.type_within _ _ _ _ _ c.in-IsIn.is c.in-Some.is)
    (next_taken c.add.ensures (λ p. next_taken (rw c.as_ref.ensures at c.add-2.ensures) (λ q. rw c.as_ref-in-Some.ensures at c.add-in-Some.ensures)))
    (λ p. gives_left _ _ _ _ _ c.put-in-Some.ensures (node.is_within_node (table_of c.args.site.styles.now) c.args.site.loc.now c.args.relation.now _ _ _ _ c.in-IsIn.is c.in-Some.is)
    (c.is_in_from.ensures _ _ (c.type_beside-pair.ensures _ _ (c.value_in-left.ensures _ p.0) (given_in _ _ _ _ c.take-right.ensures p.1.0)) (c.value_in-within.ensures _ p.1.1)))

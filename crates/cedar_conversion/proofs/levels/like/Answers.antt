use Rattle.cedar_conversion.specs.strict.Table.{table_of}
use Rattle.cedar_conversion.proofs.Outcomes.{given_in, gives_left}
use Rattle.cedar_conversion.proofs.Taken.{made, next_taken}
use Rattle.cedar_conversion.proofs.Nodes as node
use Rattle.cedar_conversion.proofs.Nested as inner
use Rattle.cedar_conversion.proofs.levels.like.Goals as goal

pub returns : goal.returns
returns g c a b h =
    made (inner.like _ _ _ c.in-Like.is) (next_taken c.add.ensures (λ p. rw c.as_ref.ensures at c.add-2.ensures))
    (λ p. gives_left _ _ _ _ _ c.put.ensures (node.like_node (table_of c.args.site.styles.now) c.args.site.loc.now c.args.relation.now _ _ c.in-Like.is)
    (c.like_from.ensures _ _ (c.value_in-target.ensures _ p.0) (given_in _ _ _ _ c.take-pattern.ensures p.1)))

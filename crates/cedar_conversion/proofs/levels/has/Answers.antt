use Rattle.cedar_conversion.specs.strict.Table.{table_of}
use Rattle.cedar_conversion.proofs.Outcomes.{gives_left}
use Rattle.cedar_conversion.proofs.Taken.{made}
use Rattle.cedar_conversion.proofs.Nodes as node
use Rattle.cedar_conversion.proofs.Nested as inner
use Rattle.cedar_conversion.proofs.levels.has.Goals as goal

pub returns : goal.returns
returns g c a b h =
    made (inner.has _ _ _ c.in-Has.is) c.add.ensures
    (λ p. gives_left _ _ _ _ _ c.put.ensures (node.has_node (table_of c.args.site.styles.now) c.args.site.loc.now c.args.relation.now _ _ c.in-Has.is)
    (c.has_from.ensures _ _ (rw c.as_ref.ensures at c.right_side-right.ensures) (c.value_in-target.ensures _ p)))

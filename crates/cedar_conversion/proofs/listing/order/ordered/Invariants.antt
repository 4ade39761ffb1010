use Rattle.cedar_conversion.specs.machines.Nested.{lent_nodes}
use Rattle.cedar_conversion.specs.machines.Taking.{LeadTo}
use Rattle.cedar_conversion.proofs.Weights.{all_weight}
use Rattle.cedar_conversion.proofs.listing.order.ordered.Given as goal

abbrev pub invariant-loop-node : goal.invariant-loop-node
invariant-loop-node l = LeadTo (lent_nodes l.order) (lent_nodes l.left) (lent_nodes l.fn.nested)

abbrev pub decreases-loop-node : goal.decreases-loop-node
decreases-loop-node l = all_weight (lent_nodes l.left)

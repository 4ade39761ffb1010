use Rattle.std.proofs.Common.{refl, subst, sym}
use Rattle.cedar_conversion.specs.machines.Nested.{lent_nodes}
use Rattle.cedar_conversion.specs.machines.Taking.{LeadTo}
use Rattle.cedar_conversion.proofs.Taken.{left_lighter, listed_on}
use Rattle.cedar_conversion.proofs.listing.order.ordered.Goals as goal

pub loop-node-init : goal.loop-node-init
loop-node-init c = subst (λ o. LeadTo (lent_nodes o) (lent_nodes c.args.nested) (lent_nodes c.args.nested)) (sym c.new-order.ensures) refl

pub loop-node-preserved : goal.loop-node-preserved
loop-node-preserved c = listed_on _ _ _ _ _ _ _ c.loop-node.invariant c.in-Some.ensures c.in_ok-push.ensures.ok c.in_ok-in_expr.ensures

pub loop-node-smaller : goal.loop-node-smaller
loop-node-smaller c = left_lighter _ _ _ _ c.in-Some.ensures c.in_ok-in_expr.ensures

pub returns : goal.returns
returns c = subst (λ xs. LeadTo (lent_nodes c.loop-node.order) (lent_nodes xs) (lent_nodes c.args.nested)) c.in_default.ensures.0 c.loop-node.invariant

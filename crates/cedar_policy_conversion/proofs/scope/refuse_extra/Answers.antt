use Rattle.std.proofs.Common.{refl}
use Rattle.cedar_policy_conversion.specs.Scope.{extra_element_fault}
use Rattle.cedar_conversion.proofs.FaultLists.{told_next}
use Rattle.cedar_conversion.proofs.Loops.{take_whole}
use Rattle.cedar_policy_conversion.proofs.scope.refuse_extra.Goals as goal

pub loop-node-init : goal.loop-node-init
loop-node-init c = refl

pub loop-node-preserved : goal.loop-node-preserved
loop-node-preserved c =
    let whole = told_next (λ n. extra_element_fault n.loc n.node) c.args.others.now c.loop-node.node-index c.node-item.result c.loop-node-test.true c.node-item.is in
    rw whole (c.add_fault-all.ensures.told _ _ c.loop-node.invariant c.extra_fault.ensures)

pub returns : goal.returns
returns c = rw (take_whole c.args.others.now c.loop-node.node-index c.loop-node-test.false) at c.loop-node.invariant

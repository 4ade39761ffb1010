use Rattle.cedar_expressions.specs.Meaning.{unplaced}
use Rattle.cedar_policy_conversion.specs.Conditions.{condition_outcome}
use Rattle.cedar_conversion.specs.strict.Table.{table_of}
use Rattle.cedar_conversion.proofs.Identifiers.{all_next}
use Rattle.cedar_conversion.proofs.Loops.{take_whole}
use Rattle.cedar_conversion.proofs.Outcomes.{empty_gives, gives_at, grown_gives}
use Rattle.cedar_policy_conversion.proofs.conditions.conditions.Goals as goal
use Rattle.cedar_policy_conversion.specs.machines.PolicyViews.{meanings}

pub loop-node-init : goal.loop-node-init
loop-node-init c = empty_gives unplaced c.with_room-all.result c.with_room-all.ensures

pub loop-node-preserved : goal.loop-node-preserved
loop-node-preserved c =
    gives_at meanings c.add.new.all _ _
    (all_next (condition_outcome (table_of c.args.styles.now)) c.args.nodes.now c.loop-node.node-index c.node-item.result c.loop-node-test.true c.node-item.is)
    (grown_gives unplaced _ _ _ _ _ c.loop-node.invariant c.condition.ensures c.add.ensures)

pub returns : goal.returns
returns c = rw (take_whole c.args.nodes.now c.loop-node.node-index c.loop-node-test.false) at c.loop-node.invariant

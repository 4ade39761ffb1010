use Rattle.std.proofs.Common.{refl}
use Rattle.cedar_syntax.specs.trees.Forms.{listed_expr}
use Rattle.cedar_conversion.proofs.Loops.{take_whole}
use Rattle.cedar_conversion.proofs.Outcomes.{items_grown}
use Rattle.cedar_policy_conversion.proofs.ReferredNodes.{entity_next}
use Rattle.cedar_policy_conversion.proofs.to_ref_or_refs.entities.Goals as goal

pub loop-item-init : goal.loop-item-init
loop-item-init c = rw c.new.ensures.items refl

pub loop-item-preserved : goal.loop-item-preserved
loop-item-preserved c =
    let whole = entity_next listed_expr c.args.items.now c.loop-item.item-index c.item-item.result c.loop-item-test.true c.item-item.is in
    rw whole (items_grown _ _ _ _ _ c.loop-item.invariant c.lone_entity.ensures c.add.ensures)

pub returns : goal.returns
returns c = rw (take_whole c.args.items.now c.loop-item.item-index c.loop-item-test.false) at c.loop-item.invariant

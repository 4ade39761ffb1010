use Rattle.cedar_conversion.specs.parts.Names.{valid_ident}
use Rattle.cedar_conversion.proofs.Identifiers.{all_next}
use Rattle.cedar_conversion.proofs.Loops.{take_whole}
use Rattle.cedar_conversion.proofs.Outcomes.{items_grown}
use Rattle.cedar_conversion.proofs.leaves.names.path_of.Goals as goal

pub loop-part-init : goal.loop-part-init
loop-part-init c = c.with_room-all.ensures

pub loop-part-preserved : goal.loop-part-preserved
loop-part-preserved c =
    let whole = all_next valid_ident c.args.path.now c.loop-part.part-index c.part-item.result c.loop-part-test.true c.part-item.is in
    rw whole (items_grown _ _ _ _ _ c.loop-part.invariant c.valid_id.ensures c.add.ensures)

pub returns : goal.returns
returns c = rw (take_whole c.args.path.now c.loop-part.part-index c.loop-part-test.false) at c.loop-part.invariant

use Rattle.std.proofs.Common.{refl}
use Rattle.cedar_policy_conversion.specs.Conditions.{condition_slot_fault}
use Rattle.cedar_conversion.specs.machines.Views.{empty_view}
use Rattle.cedar_conversion.proofs.FaultLists.{told_read}
use Rattle.cedar_conversion.proofs.Loops.{take_whole}
use Rattle.cedar_conversion.proofs.Outcomes.{gives_at}
use Rattle.cedar_policy_conversion.proofs.conditions.refuse_slots.Goals as goal

pub loop-slot-init : goal.loop-slot-init
loop-slot-init c = refl

pub loop-slot-preserved : goal.loop-slot-preserved
loop-slot-preserved c =
    gives_at empty_view c.add_fault-all.result _ _
    (told_read (condition_slot_fault c.args.site.loc.now c.args.word.now) c.args.slots.now c.loop-slot.slot-index _ c.loop-slot-test.true)
    (c.add_fault-all.ensures.told _ _ c.loop-slot.invariant c.slot_fault.ensures)

pub returns : goal.returns
returns c = rw (take_whole c.args.slots.now c.loop-slot.slot-index c.loop-slot-test.false) at c.loop-slot.invariant

use Rattle.std.proofs.Common.{map, take}
use Rattle.cedar_policy_conversion.specs.Conditions.{condition_slot_fault}
use Rattle.cedar_conversion.specs.outcome.Seen.{Gives}
use Rattle.cedar_conversion.specs.machines.Views.{empty_view}
use Rattle.cedar_conversion.specs.outcome.Outcome.{faults_outcome}
use Rattle.cedar_policy_conversion.proofs.conditions.refuse_slots.Given as goal

abbrev pub invariant-loop-slot : goal.invariant-loop-slot
invariant-loop-slot l = Gives empty_view l.all (faults_outcome (map (condition_slot_fault l.site.loc.now l.word) (take l.slot-index l.slots)))

use Rattle.std.proofs.Common.{◌≡◌, length, take}
use Rattle.cedar_syntax.specs.faults.ParseErrors.{faults_of}
use Rattle.cedar_policy_conversion.specs.Policies.{slot_faults}
use Rattle.cedar_conversion.specs.outcome.Seen.{named_faults}
use Rattle.cedar_policy_conversion.proofs.templates.static_faults.Given as goal

abbrev pub invariant-loop-fault : goal.invariant-loop-fault
invariant-loop-fault l = named_faults l.more.items ≡ slot_faults (named_faults (take (length l.yielded) (faults_of l.faults)))

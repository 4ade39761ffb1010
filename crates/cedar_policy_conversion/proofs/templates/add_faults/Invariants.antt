use Rattle.std.proofs.Common.{◌≡◌, ◌++◌}
use Rattle.cedar_syntax.specs.faults.ParseErrors.{faults_of}
use Rattle.cedar_conversion.specs.outcome.Seen.{named_faults}
use Rattle.cedar_policy_conversion.proofs.templates.add_faults.Given as goal

abbrev pub invariant-loop-fault : goal.invariant-loop-fault
invariant-loop-fault l = named_faults (faults_of l.faults) ≡ named_faults (faults_of l.fn.faults) ++ named_faults l.yielded

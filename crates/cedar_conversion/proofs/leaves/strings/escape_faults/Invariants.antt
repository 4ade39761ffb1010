use Rattle.std.proofs.Common.{◌≡◌, ◌∷◌}
use Rattle.cedar_syntax.specs.faults.ParseErrors.{faults_of}
use Rattle.cedar_conversion.specs.outcome.Seen.{named_faults}
use Rattle.cedar_conversion.specs.parts.Strings.{string_faults}
use Rattle.cedar_conversion.proofs.leaves.strings.escape_faults.Given as goal

abbrev pub invariant-loop-fault : goal.invariant-loop-fault
invariant-loop-fault l = named_faults (faults_of l.all) ≡ string_faults l.loc (l.fn.faults.head ∷ l.yielded)

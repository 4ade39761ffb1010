-- The failure that a caller is told for one of the conversion's own, which keep their faults in
-- memory of their own: the same faults, or want of memory.
use Rattle.std.specs.Prelude.{List, [], ◌∷◌, ◌++◌, reverse}
use Rattle.cedar_syntax.specs.faults.ParseErrors.{faults_of}
use Rattle.cedar_syntax.specs.declared.err.faults.Failure.{Failure}
use Rattle.cedar_syntax.specs.declared.err.faults.Failure.TheVariants.{Memory, Errors}
use Rattle.cedar_syntax.specs.declared.err.faults.ParseError.{ParseError}
use Rattle.cedar_syntax.specs.declared.err.faults.ParseErrors.{ParseErrors}
use Rattle.cedar_conversion.specs.declared.answer.fault_deque.FaultDeque.{FaultDeque}
use Rattle.cedar_conversion.specs.declared.answer.failure.Cause.{Cause}
use Rattle.cedar_conversion.specs.declared.answer.failure.Cause.TheVariants as cause

-- these faults, and then those
abbrev pub preceded : List ParseError → ParseErrors → ParseErrors
preceded [] errors = errors
preceded (first ∷ more) errors =
    record { faults = record { head = first; tail = more ++ faults_of errors } }

-- those that come earlier, which stand in the other order, and then the others
abbrev pub faults_in_order : FaultDeque → ParseErrors
faults_in_order all = preceded (reverse all.earlier.items) all.faults

abbrev pub told_cause : Cause → Failure
told_cause (cause.Memory error) = Memory error
told_cause (cause.Errors errors) = Errors (faults_in_order errors)

use Rattle.std.proofs.Common.{length, take, flat_map}
use Rattle.cedar_syntax.specs.faults.ParseErrors.{faults_of}
use Rattle.cedar_command.specs.FaultLines.{fault_line}
use Rattle.cedar_command.specs.Streams.{writing, AreBytesWritten}
use Rattle.cedar_command.proofs.run.print_faults.Given as goal

-- the lines of the faults so far are written
abbrev pub invariant-loop-fault : goal.invariant-loop-fault
invariant-loop-fault g l =
    AreBytesWritten (flat_map fault_line (take (length l.yielded) (faults_of l.faults))) (writing g.O.Write.contents l.fn.out l.out)

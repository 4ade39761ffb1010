use Rattle.cedar_command.specs.PolicyLines.{policy_lines}
use Rattle.cedar_command.specs.Streams.{writing, AreBytesWritten}
use Rattle.cedar_command.proofs.policies.print_numbered.Given as goal

-- the lines of the numbers so far are written
abbrev pub invariant-loop-number : goal.invariant-loop-number
invariant-loop-number g l = AreBytesWritten (policy_lines l.set l.number) (writing g.O.Write.contents l.fn.out l.out)

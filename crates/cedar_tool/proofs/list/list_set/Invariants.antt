use Rattle.std.proofs.Common.{◌≡◌, ℕ, List}
use Rattle.cedar_command.specs.Streams.{AreBytesWritten}
use Rattle.cedar_tool.specs.Listed.{first_data, AreJsonLines}
use Rattle.cedar_tool.specs.Streams.{output_writing}
use Rattle.cedar_tool.proofs.list.list_set.Given as goal

-- the lines of the numbers so far are written, and nothing is said
abbrev pub invariant-loop-number : goal.invariant-loop-number
invariant-loop-number g l =
    ((lines : List ℕ) × AreJsonLines (first_data l.source.name.now l.source.text.now l.set l.number) lines
    × AreBytesWritten lines (output_writing g.O.Write.contents l.fn.console.output l.console.output))
    × (l.console.errors ≡ l.fn.console.errors)

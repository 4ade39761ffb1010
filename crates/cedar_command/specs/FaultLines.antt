-- What is written of a text that is refused: a line for each fault, in order.
use Rattle.std.specs.Prelude.{ℕ, List, ◌++◌, Option, Some, None, codes, flat_map}
use Rattle.std.specs.Fmt.{decimal}
use Rattle.cedar_syntax.specs.messages.Messages.{fault_message}
use Rattle.cedar_syntax.specs.faults.ParseErrors.{faults_of, span_of}
use Rattle.cedar_syntax.specs.places.Span.{Span, end_of}
use Rattle.cedar_syntax.specs.declared.err.faults.Failure.{Failure}
use Rattle.cedar_syntax.specs.declared.err.faults.Failure.TheVariants.{Memory, Errors}
use Rattle.cedar_syntax.specs.declared.err.faults.ParseError.{ParseError}
use Rattle.cedar_command.specs.Streams.{Writing, AreBytesWritten}

-- the line of a place, its first byte and the one behind its last, and of what is said of it: a
-- dash stands for no place
abbrev pub placed_line : Option Span → List ℕ → List ℕ
placed_line (Some span) message =
    decimal span.offset ++ codes ".." ++ decimal (end_of span) ++ codes ": " ++ message
    ++ codes "\n"
placed_line None message = codes "-: " ++ message ++ codes "\n"

-- a fault's line: its place, and what it says of itself
abbrev pub fault_line : ParseError → List ℕ
fault_line fault = placed_line (span_of fault) (fault_message fault)

-- the lines of a failure's faults are written, and it isn't want of memory
abbrev pub AreFaultsWritten : Failure → Writing → Type 0
AreFaultsWritten (Memory error) w = ⊥
AreFaultsWritten (Errors faults) w = AreBytesWritten (flat_map fault_line (faults_of faults)) w

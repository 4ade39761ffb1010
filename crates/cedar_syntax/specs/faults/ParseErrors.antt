-- The faults of a text, in order, and the failure that has them.
use Rattle.std.specs.Prelude.{List, Option}
use Rattle.cedar_syntax.specs.faults.NonEmpty.{list_of, remaining_elements}
use Rattle.cedar_syntax.specs.places.Span.{Span}
use Rattle.cedar_syntax.specs.faults.RawFault.{span_of_raw}
use Rattle.cedar_syntax.specs.faults.ToASTError.{span_of_ast}
use Rattle.cedar_syntax.specs.declared.err.faults.ParseError.{ParseError}
use Rattle.cedar_syntax.specs.declared.err.faults.ParseError.TheVariants.{ToCST, ToAST}
use Rattle.cedar_syntax.specs.declared.err.faults.ParseErrors.{ParseErrors}
use Rattle.cedar_syntax.specs.declared.err.faults.IntoIter.{IntoIter}
use Rattle.cedar_syntax.specs.declared.err.faults.Failure.{Failure}
use Rattle.cedar_syntax.specs.declared.err.faults.Failure.TheVariants.{Memory, Errors}

-- all faults of the list, of which there is at least one
abbrev pub faults_of : ParseErrors → List ParseError
faults_of errors = list_of errors.faults

-- the bytes at which a fault stands, where it has a place
abbrev pub span_of : ParseError → Option Span
span_of (ToCST fault) = span_of_raw fault.raw
span_of (ToAST fault) = span_of_ast fault

-- the faults that an iterator is still to give
abbrev pub remaining_faults : IntoIter → List ParseError
remaining_faults items = remaining_elements items.faults

-- want of memory, and no fault of the text
abbrev pub IsMemory : Failure → Type 0
IsMemory (Memory m) = Unit {0}
IsMemory (Errors errors) = ⊥

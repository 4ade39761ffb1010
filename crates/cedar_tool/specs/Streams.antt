-- What is seen of a run's streams: how their calls went, what is written, and why a run stops.
use Rattle.std.specs.Prelude.{◌≡◌, ◌⊎◌, ℕ, List, Option, Result, Ok, Err, option_and_then}
use Rattle.std.specs.IoError.{error_kind}
use Rattle.std.specs.declared.io.ErrorKind.TheVariants as kind
use Rattle.std.specs.declared.io.Error.{Error}
use Rattle.cedar_command.specs.Streams.{Writing}
use Rattle.cedar_tool.specs.declared.streams.Input.{Input}
use Rattle.cedar_tool.specs.declared.streams.Output.{Output}
use Rattle.cedar_tool.specs.declared.streams.Console.{Console}
use Rattle.cedar_tool.specs.declared.streams.WriterState.{WriterState}
use Rattle.cedar_tool.specs.declared.streams.WriterState.TheVariants.{Written, Failed}
use Rattle.cedar_tool.specs.declared.ending.Verdict.{Verdict}
use Rattle.cedar_tool.specs.declared.ending.Verdict.TheVariants as verdict
use Rattle.cedar_tool.specs.declared.request.Format.{Format}
use Rattle.cedar_tool.specs.declared.request.Format.TheVariants.{Human, Plain, Json}

-- what a reader that wasn't read yet is known to give
abbrev pub known_of : {R : Type 0} → (R → Option (List ℕ)) → Input R → Option (List ℕ)
known_of remaining input = option_and_then remaining input.reader

-- why reading failed, if it did
abbrev pub input_failure : {R : Type 0} → Input R → Option Error
input_failure input = input.failure

abbrev pub output_state : {W : Type 0} → Output W → WriterState
output_state output = output.state

abbrev pub output_writer : {W : Type 0} → Output W → W
output_writer output = output.writer

-- what a writer of a type whose bytes are known so held before some calls and holds after them
abbrev pub output_writing : {W : Type 0} → (W → Option (List ℕ)) → Output W → Output W → Writing
output_writing contents old new =
    record { before = contents (output_writer old); after = contents (output_writer new) }

-- The state before a call of a writer that comes to the state `next` where it succeeds, its
-- answer, and the state behind it. Behind a failure each call answers that failure.
abbrev pub LeavesState : {A : Type 0} → WriterState → WriterState → Result A Error → WriterState
    → Type 0
LeavesState next (Failed first) answer state = (answer ≡ Err first) × (state ≡ Failed first)
LeavesState next _ (Ok done) state = state ≡ next
LeavesState next _ (Err error) state = state ≡ Failed error

-- What the writer itself answers to a call is answered, but where a call failed before, that
-- failure.
abbrev pub RepeatsFailure : {A : Type 0} → WriterState → Result A Error → Result A Error → Type 0
RepeatsFailure (Failed first) given answer = answer ≡ Err first
RepeatsFailure _ given answer = answer ≡ given

-- memory was refused
abbrev pub IsWant : Error → Type 0
IsWant error = error_kind error ≡ kind.OutOfMemory

-- why a run stops before all texts were tried: memory was refused, or one of its streams failed
abbrev pub StopsRun : {O E : Type 0} → Console O E → Error → Type 0
StopsRun console error = IsWant error
    ⊎ ((output_state console.output ≡ Failed error) ⊎ (output_state console.errors ≡ Failed error))

-- What the stream of errors, from what it was to what it is, has of texts with this verdict:
-- nothing where they are accepted, or refused and told as JSON; else something was written to it
-- last. Of an `Output` as `Output::new` makes it a state of `Written` says that the run wrote.
abbrev pub SpeaksOf : {E : Type 0} → Verdict → Format → Output E → Output E → Type 0
SpeaksOf verdict.Accepted format old new = new ≡ old
SpeaksOf verdict.Refused Json old new = new ≡ old
SpeaksOf verdict.Refused Plain old new = output_state new ≡ Written
SpeaksOf verdict.Refused (Human colours) old new = output_state new ≡ Written
SpeaksOf verdict.Failed format old new = output_state new ≡ Written

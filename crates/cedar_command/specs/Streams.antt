-- What is seen of a run's streams: what is read, what is written, how the first failure stays.
use Rattle.std.specs.Prelude.{◌≡◌, ◌≢◌, ℕ, List, Option, Result, Ok, Err, IfSome, IsSomeAnd, IsErrAnd, ⊤}
use Rattle.std.specs.Str.{IsUtf8}
use Rattle.std.specs.Str.Lossy.{utf8_valid_len}
use Rattle.std.specs.Io.KnownBytes.{Appends}
use Rattle.std.specs.IoError.{error_kind}
use Rattle.std.specs.declared.io.ErrorKind.TheVariants as kind
use Rattle.std.specs.declared.io.Error.{Error}
use Rattle.cedar_command.specs.declared.streams.Stop.{Stop}
use Rattle.cedar_command.specs.declared.streams.Stop.TheVariants.{Memory, InputOutput, NotUtf8}
use Rattle.cedar_command.specs.declared.streams.Input.{Input}
use Rattle.cedar_command.specs.declared.streams.Output.{Output}
use Rattle.cedar_command.specs.declared.streams.WriterState.{WriterState}
use Rattle.cedar_command.specs.declared.streams.WriterState.TheVariants.{Flushed, Written, Failed}

-- want of memory stands for the errors of its own kind, a failed stream for all others
abbrev pub StandsFor : Stop → Error → Type 0
StandsFor Memory error = error_kind error ≡ kind.OutOfMemory
StandsFor InputOutput error = error_kind error ≢ kind.OutOfMemory
StandsFor (NotUtf8 byte) error = ⊥

abbrev pub reader_of : {R : Type 0} → Input R → R
reader_of input = input.reader

-- why reading failed, if it did
abbrev pub read_failure : {R : Type 0} → Input R → Option Error
read_failure input = input.failure

-- reading failed, and this stands for why
abbrev pub FailsToRead : Option Error → Stop → Type 0
FailsToRead failure stop = IsSomeAnd failure (λ error. StandsFor stop error)

-- what a reader gives isn't UTF-8 from this byte on, where it is known before it is read
abbrev pub IsNoText : Option (List ℕ) → ℕ → Type 0
IsNoText known byte = IfSome known (λ bytes. ¬ IsUtf8 bytes × (byte ≡ utf8_valid_len bytes))

abbrev pub writer_state : {W : Type 0} → Output W → WriterState
writer_state output = output.state

abbrev pub writer_of : {W : Type 0} → Output W → W
writer_of output = output.writer

-- what a writer held before some calls and holds after them, where that is known
pub record Writing : Type 0 where
  pub before : Option (List ℕ)
  pub after : Option (List ℕ)

-- of a writer of a type whose bytes are known so
abbrev pub writing : {W : Type 0} → (W → Option (List ℕ)) → Output W → Output W → Writing
writing contents old new =
    record { before = contents (writer_of old); after = contents (writer_of new) }

-- a stream that a run may write to: as it was before the run and as it is at its end
pub record Stream (W : Type 0) : Type 0 where
  pub old : Output W
  pub new : Output W
  pub writing : Writing

-- of a writer of a type whose bytes are known so
abbrev pub stream : {W : Type 0} → (W → Option (List ℕ)) → Output W → Output W → Stream W
stream contents old new =
    record { old = old; new = new; writing = writing contents old new }

-- no call of the writer was made
abbrev pub IsUntouched : {W : Type 0} → Stream W → Type 0
IsUntouched s = s.new ≡ s.old

-- just these bytes were written, where what the writer holds is known
abbrev pub AreBytesWritten : List ℕ → Writing → Type 0
AreBytesWritten bytes w = Appends w.before w.after bytes

-- What the writer itself answers to a call is answered, but where a call failed before, that
-- failure.
abbrev pub Repeats : {A : Type 0} → WriterState → Result A Error → Result A Stop → Type 0
Repeats (Failed first) given answer = IsErrAnd answer (λ stop. StandsFor stop first)
Repeats _ (Ok done) answer = answer ≡ Ok done
Repeats _ (Err error) answer = IsErrAnd answer (λ stop. StandsFor stop error)

-- a call failed, and this stands for why
abbrev pub FailsFor : WriterState → Stop → Type 0
FailsFor (Failed error) stop = StandsFor stop error
FailsFor Flushed stop = ⊥
FailsFor Written stop = ⊥

abbrev pub HasNotFailed : WriterState → Type 0
HasNotFailed (Failed error) = ⊥
HasNotFailed Flushed = ⊤
HasNotFailed Written = ⊤

-- behind a failure the state stays that failure
abbrev pub KeepsFailure : WriterState → WriterState → Type 0
KeepsFailure (Failed first) state = state ≡ Failed first
KeepsFailure Flushed state = ⊤
KeepsFailure Written state = ⊤

-- The state before a call of a writer that comes to the state `next` where it succeeds, its
-- answer, and the state behind it.
abbrev pub Leaves : {A : Type 0} → WriterState → WriterState → Result A Stop → WriterState → Type 0
Leaves next old (Ok done) state = (state ≡ next) × HasNotFailed old
Leaves next old (Err stop) state = FailsFor state stop × KeepsFailure old state

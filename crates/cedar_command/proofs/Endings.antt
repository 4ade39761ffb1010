-- Each way to end a run, with what its end says.
use Rattle.std.proofs.Common.{◌≡◌, ◌⊎◌, ℕ, List, [], ◌++◌, Option, Some, None, Result, Ok, Err, IfOk, IfSome, IfErr, inl, inr, sym, ap, subst, ◌∙◌}
use Rattle.std.specs.Prelude.{String}
use Rattle.std.specs.Str.{IsUtf8}
use Rattle.std.specs.declared.io.Error.{Error}
use Rattle.std.specs.Str.Lossy.{utf8_valid_len}
use Rattle.cedar_command.specs.declared.run.Ending.{Ending}
use Rattle.cedar_command.specs.declared.run.Verdict.{Verdict}
use Rattle.cedar_command.specs.declared.run.Ending.TheVariants.{Usage, Stopped}
use Rattle.cedar_command.specs.declared.streams.Stop.{Stop}
use Rattle.cedar_command.specs.declared.streams.Stop.TheVariants.{InputOutput, NotUtf8}
use Rattle.cedar_command.specs.declared.streams.WriterState.{WriterState}
use Rattle.cedar_command.specs.Ends.{Streams, Stops, StopsWriting, Unanswered, Ends, TellsEnd, status_of, WasRead, IsAnswered, IsAnswerBegun, IsAnswerWritten, IsVerdict}
use Rattle.cedar_command.specs.Streams.{FailsToRead, Stream, Writing, IsNoText, IsUntouched, writer_state}
use Rattle.cedar_command.specs.declared.request.Command.{Command}
use Rattle.cedar_conversion.specs.strict.Extensions.{Extensions}
use Rattle.cedar_command.specs.Request.{AsksFor, AsksForNothing, styles_of}

-- the text wasn't had
pub unread : {O : Type 0} (command : Command) (table : Extensions) (known : Option (List ℕ)) (read : Option Error) (out : Stream O) (stop : Stop) → IsUntouched out →
    FailsToRead read stop ⊎ ((byte : ℕ) × (stop ≡ NotUtf8 byte) × IsNoText known byte) → Stops command table known read out stop
unread command table known read out stop same (inl failed) = Stops.unread stop failed same
unread command table known read out stop same (inr none) = rw none.1 (Stops.no_text none.0 none.2 same)

-- what a reader gives isn't UTF-8 where what was read isn't
pub no_text : (known : Option (List ℕ)) (before read : List ℕ) (byte : ℕ) → before ≡ [] → IfSome known (λ bytes. read ≡ before ++ bytes) →
    (IsUtf8 read → ⊥) → byte ≡ utf8_valid_len read → IsNoText known byte
no_text None before read byte none is never valid = tt
no_text (Some bytes) before read byte none is never valid =
    let same : read ≡ bytes = is ∙ ap (λ b. b ++ bytes) none in
    (λ u. never (subst IsUtf8 (sym same) u), valid ∙ ap utf8_valid_len same)

-- a text is what was read where it is what the reader gave
pub was_read : (known : Option (List ℕ)) (given text : List ℕ) →
    IfSome known (λ k. given ≡ k) → text ≡ given → IsUtf8 text → WasRead known text
was_read None given text is same utf8 = (utf8, tt)
was_read (Some k) given text is same utf8 = (utf8, same ∙ is)

-- it was had, and not answered
unanswered : {O : Type 0} (command : Command) (table : Extensions) (known : Option (List ℕ)) (read : Option Error) (out : Stream O) (stop : Stop) (text : List ℕ) →
    WasRead known text → read ≡ None → StopsWriting (IsAnswerBegun command table text out) (writer_state out.new) stop → Stops command table known read out stop
unanswered command table known read out stop text had none (inl memory) = rw memory.0 (Stops.wanting text had none memory.1)
unanswered command table known read out stop text had none (inr failed) = Stops.unwritten stop failed

pub not_answered : {V O : Type 0} (answer : Result V Stop) (command : Command) (table : Extensions) (known : Option (List ℕ)) (read : Option Error) (out : Stream O) (text : List ℕ) →
    WasRead known text → read ≡ None → IfErr answer (λ stop. StopsWriting (IsAnswerBegun command table text out) (writer_state out.new) stop) →
    IfErr answer (λ stop. Stops command table known read out stop)
not_answered (Ok v) command table known read out text had none stops = tt
not_answered (Err stop) command table known read out text had none stops =
    unanswered command table known read out stop text had none stops

-- it was had, and answered
pub answered : (answer : Result Verdict Stop) (command : Command) (table : Extensions) (known : Option (List ℕ)) (w : Writing) (text : List ℕ) →
    WasRead known text → IfOk answer (λ v. IsVerdict command table text v) → IfOk answer (λ v. IsAnswerWritten command table text v w) →
    IfOk answer (λ v. IsAnswered command table known v w)
answered (Ok v) command table known w text had verdict written = (text, had, verdict, written)
answered (Err stop) command table known w text had verdict written = tt

-- a status is that of an end which says this of the words and the streams
abbrev pub EndsAt : {A O E : Type 0} → List (String A) → Streams O E → ℕ → Type 0
EndsAt words s status = (end : Ending) × (status ≡ status_of end) × Ends words s end

-- the end is told, or can't be
told : {A O E : Type 0} (words : List (String A)) (s : Streams O E) (end : Ending) (status : ℕ) →
    Unanswered words s end → TellsEnd end s.err status → EndsAt words s status
told words s end status why (inl written) = (end, written.0, Ends.told end why written.1)
told words s end status why (inr untold) =
    (Stopped InputOutput, untold.1, Ends.untold end untold.0 why untold.2)

pub unasked : {A O E : Type 0} (words : List (String A)) (s : Streams O E) (status : ℕ) →
    AsksForNothing words → IsUntouched s.out → TellsEnd Usage s.err status → EndsAt words s status
unasked words s status none same = told words s Usage status (Unanswered.usage none same)

pub stopped : {A O E : Type 0} (words : List (String A)) (s : Streams O E) (status : ℕ) (command : Command) (stop : Stop) →
    AsksFor command words → Stops command (styles_of words) s.known s.read s.out stop → TellsEnd (Stopped stop) s.err status → EndsAt words s status
stopped words s status command stop asks stops =
    told words s (Stopped stop) status (Unanswered.stopped command stop asks stops)

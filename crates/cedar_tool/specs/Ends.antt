-- What each end of a run says of its texts, its files and its streams.
use Rattle.std.specs.Prelude.{◌≡◌, ◌≢◌, ◌⊎◌, ℕ, List, [], Option, Some, IfSome, codes}
use Rattle.std.specs.declared.io.Error.{Error}
use Rattle.cedar_conversion.specs.strict.Table.{table_of}
use Rattle.cedar_command.specs.Streams.{Writing, AreBytesWritten}
use Rattle.cedar_tool.specs.declared.ending.Verdict.{Verdict}
use Rattle.cedar_tool.specs.declared.ending.Verdict.TheVariants.{Accepted, Refused, Failed}
use Rattle.cedar_tool.specs.declared.ending.Ending.{Ending}
use Rattle.cedar_tool.specs.declared.ending.Ending.TheVariants.{Answered, Shown, Usage, Memory, Stream}
use Rattle.cedar_tool.specs.declared.request.Request.{Request}
use Rattle.cedar_tool.specs.declared.serve.Texts.{Texts}
use Rattle.cedar_tool.specs.declared.streams.Console.{Console}
use Rattle.cedar_tool.specs.declared.streams.Output.{Output}
use Rattle.cedar_tool.specs.declared.streams.WriterState.{WriterState}
use Rattle.cedar_tool.specs.declared.streams.WriterState.TheVariants as writer
use Rattle.cedar_tool.specs.Disks.{Files}
use Rattle.cedar_tool.specs.Streams.{known_of, input_failure, output_state, SpeaksOf}
use Rattle.cedar_tool.specs.Answers.{Serves, TriesAll}

-- the status of the process
abbrev pub run_status : Ending → ℕ
run_status (Answered Accepted) = 0
run_status (Answered Refused) = 1
run_status (Answered Failed) = 4
run_status Shown = 0
run_status Usage = 2
run_status Memory = 3
run_status Stream = 4

-- What a run has at its end: what was known of standard input, `None` where that can't tell before
-- it is read; why reading it failed, if it did; the disk before the run and behind it, and what is
-- known of its files.
pub record Sources (D : Type 0) : Type 0 where
  pub known : Option (List ℕ)
  pub failure : Option Error
  pub files : D → Option Files
  pub before : D
  pub after : D

-- of a reader and a disk of types of which this is known
abbrev pub sources_of : {R D : Type 0} → (R → Option (List ℕ)) → (D → Option Files) → Texts R D
    → Texts R D → Sources D
sources_of remaining files old new = record {
  known = known_of remaining old.input;
  failure = input_failure new.input;
  files = files;
  before = old.disk;
  after = new.disk;
}

-- the name under which standard input is told
abbrev pub input_name : List ℕ
input_name = codes "<stdin>"

-- what a request made of the texts under these names, or of standard input where there are none:
-- what is written of them, and the verdict
pub data Treats {D : Type 0} (request : Request) (t : Sources D) :
    List (List ℕ) → List ℕ → Verdict → Type 0 where
  files : (names : List (List ℕ)) (out : List ℕ) (verdict : Verdict) → names ≢ [] →
      TriesAll t.files request.task request.format (table_of request.styles) t.before names
      t.after out verdict →
      Treats request t names out verdict
  input : (text out : List ℕ) (verdict : Verdict) → IfSome t.known (λ known. text ≡ known) →
      Serves t.files request.task request.format (table_of request.styles) input_name text t.before
      t.after out verdict →
      Treats request t [] out verdict
  unread : (error : Error) → t.failure ≡ Some error → t.after ≡ t.before →
      Treats request t [] [] Failed

-- the same of a writer of standard output
abbrev pub AreTreated : {D : Type 0} → Request → Sources D → List (List ℕ) → Verdict → Writing
    → Type 0
AreTreated request t names verdict w =
    (out : List ℕ) × Treats request t names out verdict × AreBytesWritten out w

-- what each end says, of the texts, of what was written to standard output, of how its calls went,
-- and of the stream of errors before the run and behind it
pub data RunEnds {D E : Type 0} (t : Sources D) (w : Writing) (output : WriterState)
    (before errors : Output E) : Ending → Type 0 where
  -- all texts were tried, all that was written was passed on, and what the verdict calls for was
  -- said, or nothing where it is good
  answered : (request : Request) (names : List (List ℕ)) (verdict : Verdict) →
      AreTreated request t names verdict w → output ≡ writer.Flushed →
      SpeaksOf verdict request.format before errors →
      RunEnds t w output before errors (Answered verdict)
  -- help or the version was written and passed on, and nothing to the stream of errors
  shown : t.after ≡ t.before → output ≡ writer.Flushed → errors ≡ before →
      RunEnds t w output before errors Shown
  -- what is wrong with the words was said, and nothing else was done
  usage : t.after ≡ t.before → AreBytesWritten [] w → output_state errors ≡ writer.Written →
      RunEnds t w output before errors Usage
  -- that memory was refused was said
  memory : output_state errors ≡ writer.Written → RunEnds t w output before errors Memory
  -- a write or a flush failed
  stream : (error : Error) →
      (output ≡ writer.Failed error) ⊎ (output_state errors ≡ writer.Failed error) →
      RunEnds t w output before errors Stream

-- what was said of the words alone: that they ask for nothing, or help and the version
abbrev pub IsShown : {O E : Type 0} → Console O E → Console O E → Ending → Type 0
IsShown old new Usage = (new.output ≡ old.output) × (output_state new.errors ≡ writer.Written)
IsShown old new Shown = (new.errors ≡ old.errors) × (output_state new.output ≡ writer.Flushed)
IsShown old new (Answered verdict) = ⊥
IsShown old new Memory = ⊥
IsShown old new Stream = ⊥

-- an end was said on the stream of errors, or that failed
abbrev pub IsSaid : Ending → WriterState → Ending → Type 0
IsSaid wanted errors end = ((end ≡ wanted) × (errors ≡ writer.Written))
    ⊎ ((error : Error) × (end ≡ Stream) × (errors ≡ writer.Failed error))

-- a run that ends so has this status, or that of a failed stream where it could not be said
abbrev pub TellsRunEnd : Ending → WriterState → ℕ → Type 0
TellsRunEnd wanted errors status =
    (end : Ending) × (status ≡ run_status end) × IsSaid wanted errors end

-- a run stopped for want of memory, which was said, or since a stream failed
abbrev pub IsStopped : WriterState → WriterState → Ending → Type 0
IsStopped output errors end = ((end ≡ Memory) × (errors ≡ writer.Written))
    ⊎ ((error : Error) × (end ≡ Stream)
    × ((output ≡ writer.Failed error) ⊎ (errors ≡ writer.Failed error)))

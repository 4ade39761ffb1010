-- What each end of a run says of the words, the text and the streams.
use Rattle.std.specs.Prelude.{◌≡◌, ◌⊎◌, ◌++◌, ℕ, List, [], Option, Some, None, IfSome, String, codes}
use Rattle.std.specs.Fmt.{decimal}
use Rattle.std.specs.Str.{IsUtf8}
use Rattle.std.specs.declared.io.Error.{Error}
use Rattle.cedar_lexer.specs.Token.{Lexeme}
use Rattle.cedar_lexer.specs.Cut.{Cuts}
use Rattle.cedar_expressions.specs.Value.{Value}
use Rattle.cedar_syntax.specs.declared.cst.Expr.{Expr}
use Rattle.cedar_syntax.specs.declared.err.faults.Failure.{Failure}
use Rattle.cedar_grammar.specs.grammar.Grammar.{IsTreeOf}
use Rattle.cedar_grammar.specs.grammar.LooseExpressions.{ReadsExpr}
use Rattle.cedar_syntax.specs.printing.Printed.{printed, tokens_text}
use Rattle.cedar_syntax.specs.tokens.Signs.{sign_limit}
use Rattle.cedar_syntax.specs.trees.Trees.{Cell}
use Rattle.cedar_syntax.specs.trees.Unplaced.{expr_tree}
use Rattle.cedar_conversion.specs.strict.Extensions.{Extensions}
use Rattle.cedar_conversion.specs.strict.Strict.{Means, expression}
use Rattle.cedar_policy_parser.specs.meaning.Formatted.{AreLinesOf, MeansSet}
use Rattle.cedar_policy_parser.specs.faults.Refused.{RefusesText, RefusesSet}
use Rattle.cedar_policy_store.specs.PlaceFree.{Policies as PolicySet}
use Rattle.cedar_command.specs.declared.run.Ending.{Ending}
use Rattle.cedar_command.specs.declared.run.Ending.TheVariants.{Answered, Usage, Stopped}
use Rattle.cedar_command.specs.declared.run.Verdict.{Verdict}
use Rattle.cedar_command.specs.declared.run.Verdict.TheVariants.{Accepted, Refused}
use Rattle.cedar_command.specs.declared.streams.Stop.{Stop}
use Rattle.cedar_command.specs.declared.streams.Stop.TheVariants.{Memory, InputOutput, NotUtf8}
use Rattle.cedar_command.specs.declared.streams.Input.{Input}
use Rattle.cedar_command.specs.declared.streams.WriterState.{WriterState}
use Rattle.cedar_command.specs.declared.streams.WriterState.TheVariants.{Flushed, Written}
use Rattle.cedar_command.specs.FaultLines.{AreFaultsWritten}
use Rattle.cedar_command.specs.PolicyLines.{IsSetBegun, IsSetWritten}
use Rattle.cedar_command.specs.Streams.{Writing, Stream, IsUntouched, AreBytesWritten, FailsFor, FailsToRead, read_failure, writer_state, IsNoText}
use Rattle.cedar_command.specs.declared.request.Command.{Command}
use Rattle.cedar_command.specs.declared.request.Command.TheVariants.{Expression, Policies, Format}
use Rattle.cedar_command.specs.Request.{AsksFor, AsksForNothing, styles_of}

-- the text's tokens mean what the command asks for: an expression, or a set of policies, that
-- calls no extension but those of the table
abbrev pub IsMeant : Command → Extensions → List ℕ → Type 0
IsMeant Expression table text = (ts : List Lexeme) × (value : Value) × Cuts text ts
    × Means table sign_limit expression ts value
IsMeant Policies table text = (set : PolicySet) × MeansSet table text set
IsMeant Format table text = (set : PolicySet) × MeansSet table text set

-- a text is accepted where it means that, and refused where not
abbrev pub IsVerdict : Command → Extensions → List ℕ → Verdict → Type 0
IsVerdict command table text Accepted = IsMeant command table text
IsVerdict command table text Refused = ¬ IsMeant command table text

-- a line with what `Display` writes of an expression's tree, and one with `ok`
abbrev pub tree_lines : Option Expr → List ℕ
tree_lines (Some expr) = tokens_text (printed (expr_tree expr)) ++ codes "\nok\n"
tree_lines None = codes "ok\n"

-- the lines of the tree that a text has are written
abbrev pub IsTreeWritten : List ℕ → Writing → Type 0
IsTreeWritten text w =
    (tree : Cell Expr) × IsTreeOf ReadsExpr text tree × AreBytesWritten (tree_lines tree.node) w

-- a text's policies are written, each on a line of its own
abbrev pub IsTextWritten : List ℕ → Writing → Type 0
IsTextWritten text w = (lines : List ℕ) × AreLinesOf lines text × AreBytesWritten lines w

-- for which failures a command refuses a text
abbrev pub RefusesFor : Command → Extensions → List ℕ → Failure → Type 0
RefusesFor Expression table text failure = RefusesText table failure text
RefusesFor Policies table text failure = RefusesSet table failure text
RefusesFor Format table text failure = RefusesSet table failure text

-- What is written of a text, by the command, under a table: of a refused one the faults for which
-- it is refused.
abbrev pub IsAnswerWritten : Command → Extensions → List ℕ → Verdict → Writing → Type 0
IsAnswerWritten Expression table text Accepted w = IsTreeWritten text w
IsAnswerWritten Policies table text Accepted w = IsSetWritten table text w
IsAnswerWritten Format table text Accepted w = IsTextWritten text w
IsAnswerWritten command table text Refused w =
    (failure : Failure) × RefusesFor command table text failure × AreFaultsWritten failure w

-- What stands written of a text's answer where memory is refused: nothing, or the lines of the
-- first policies.
abbrev pub IsAnswerBegun : {O : Type 0} → Command → Extensions → List ℕ → Stream O → Type 0
IsAnswerBegun Expression table text out = IsUntouched out
IsAnswerBegun Policies table text out = IsUntouched out ⊎ IsSetBegun table text out.writing
IsAnswerBegun Format table text out = IsUntouched out

-- A run's streams at its end: what is known of the reader's text, `None` where the reader can't
-- tell it before it is read; why reading failed, if it did; the writer of the answer, and that of
-- what is said where there is none.
pub record Streams (O E : Type 0) : Type 0 where
  pub known : Option (List ℕ)
  pub read : Option Error
  pub out : Stream O
  pub err : Stream E

abbrev pub streams_at : {R O E : Type 0} → Option (List ℕ) → Input R → Stream O → Stream E
    → Streams O E
streams_at known input out err =
    record { known = known; read = read_failure input; out = out; err = err }

-- a text that was read: just what the reader gives, where that is known
abbrev pub WasRead : Option (List ℕ) → List ℕ → Type 0
WasRead known text = IsUtf8 text × IfSome known (λ bytes. text ≡ bytes)

-- Why a text gets no verdict, and what stands written then.
pub data Stops {O : Type 0} (command : Command) (table : Extensions) (known : Option (List ℕ))
    (read : Option Error) (out : Stream O) : Stop → Type 0 where
  -- a read failed
  unread : (stop : Stop) → FailsToRead read stop → IsUntouched out →
      Stops command table known read out stop
  -- what was read isn't UTF-8
  no_text : (byte : ℕ) → IsNoText known byte → IsUntouched out →
      Stops command table known read out (NotUtf8 byte)
  -- a write or the flush failed
  unwritten : (stop : Stop) → FailsFor (writer_state out.new) stop →
      Stops command table known read out stop
  -- memory was refused to what is made of a text that was read
  wanting : (text : List ℕ) → WasRead known text → read ≡ None →
      IsAnswerBegun command table text out → Stops command table known read out Memory

-- why a text that was read gets no verdict: memory was refused, where this stands written, or a
-- write failed
abbrev pub StopsWriting : Type 0 → WriterState → Stop → Type 0
StopsWriting Begun state stop = ((stop ≡ Memory) × Begun) ⊎ FailsFor state stop

-- a text that was read has this verdict, and its answer is written
abbrev pub IsAnswered : Command → Extensions → Option (List ℕ) → Verdict → Writing → Type 0
IsAnswered command table known verdict w =
    (text : List ℕ) × WasRead known text × IsVerdict command table text verdict
    × IsAnswerWritten command table text verdict w

-- why a run ends without an answer
pub data Unanswered {A O E : Type 0} (words : List (String A)) (s : Streams O E) :
    Ending → Type 0 where
  usage : AsksForNothing words → IsUntouched s.out → Unanswered words s Usage
  stopped : (command : Command) (stop : Stop) → AsksFor command words →
      Stops command (styles_of words) s.known s.read s.out stop →
      Unanswered words s (Stopped stop)

-- what is said of an end without an answer

abbrev pub stop_message : Stop → List ℕ
stop_message Memory = codes "want of memory"
stop_message InputOutput = codes "input or output failed"
stop_message (NotUtf8 byte) = codes "input isn't UTF-8 from byte " ++ decimal byte ++ codes " on"

abbrev pub message_of : Ending → List ℕ
message_of (Answered verdict) = []
message_of Usage = codes "usage: cedar-parse expr|policies|format [fn:NAME | method:NAME]*"
message_of (Stopped stop) = stop_message stop

-- a message stands written, on a line of its own, and all writes went well
abbrev pub IsMessageWritten : {E : Type 0} → List ℕ → Stream E → Type 0
IsMessageWritten message err =
    (writer_state err.new ≡ Written) × AreBytesWritten (message ++ codes "\n") err.writing

-- what each end says of the words and of the streams
pub data Ends {A O E : Type 0} (words : List (String A)) (s : Streams O E) : Ending → Type 0 where
  -- the text was read, all that was written was passed on, and nothing was said beside it
  answered : (command : Command) (verdict : Verdict) → AsksFor command words →
      IsAnswered command (styles_of words) s.known verdict s.out.writing →
      s.read ≡ None → writer_state s.out.new ≡ Flushed → IsUntouched s.err →
      Ends words s (Answered verdict)
  told : (end : Ending) → Unanswered words s end → IsMessageWritten (message_of end) s.err →
      Ends words s end
  -- why the run ends could not be told
  untold : (end : Ending) (stop : Stop) → Unanswered words s end →
      FailsFor (writer_state s.err.new) stop → Ends words s (Stopped InputOutput)

abbrev pub status_of : Ending → ℕ
status_of (Answered Accepted) = 0
status_of (Answered Refused) = 1
status_of Usage = 2
status_of (Stopped Memory) = 3
status_of (Stopped InputOutput) = 4
status_of (Stopped (NotUtf8 byte)) = 4

-- a run that ends so has this status, or that of a failed write where this could not be told
abbrev pub TellsEnd : {E : Type 0} → Ending → Stream E → ℕ → Type 0
TellsEnd end err status =
    ((status ≡ status_of end) × IsMessageWritten (message_of end) err)
    ⊎ ((stop : Stop) × (status ≡ 4) × FailsFor (writer_state err.new) stop)

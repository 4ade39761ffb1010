-- What is written of an answer, from the calls that write it.
use Rattle.std.proofs.Common.{◌≡◌, ◌<◌, ◌+◌, ℕ, List, [], ◌∷◌, ◌++◌, length, take, get_or, flat_map, Option, Some, None, Result, Ok, Err, IfOk, IfErr, OnOk, inl, inr, ap, subst, append-nil, ◌∙◌, arith}
use Rattle.std.proofs.KnownBytes.{Appends-trans}
use Rattle.std.proofs.lemmas.List.Concat.{flat_map-append}
use Rattle.std.specs.Io.KnownBytes.{Appends, Keeps}
use Rattle.cedar_syntax.specs.declared.cst.Expr.{Expr}
use Rattle.cedar_syntax.specs.declared.err.faults.Failure.{Failure}
use Rattle.cedar_syntax.specs.declared.err.faults.Failure.TheVariants.{Memory, Errors}
use Rattle.cedar_syntax.specs.declared.err.faults.ParseError.{ParseError}
use Rattle.cedar_syntax.specs.faults.ParseErrors.{IsMemory, faults_of}
use Rattle.cedar_grammar.specs.grammar.Grammar.{IsTreeOf}
use Rattle.cedar_grammar.specs.grammar.LooseExpressions.{ReadsExpr}
use Rattle.cedar_syntax.specs.trees.Trees.{Cell}
use Rattle.cedar_conversion.proofs.Loops.{take_next, take_whole}
use Rattle.cedar_conversion.specs.strict.Extensions.{Extensions}
use Rattle.cedar_policy_parser.specs.meaning.Formatted.{AreLinesOf, MeansSet}
use Rattle.cedar_policy_store.specs.PlaceFree.{set_meaning}
use Rattle.cedar_policy_store.specs.PolicyMaps.{PolicyMaps}
use Rattle.cedar_command.specs.FaultLines.{AreFaultsWritten, fault_line}
use Rattle.cedar_command.specs.PolicyLines.{AreFirstLinesWritten, set_lines}
use Rattle.cedar_command.specs.declared.run.Verdict.{Verdict}
use Rattle.cedar_command.specs.declared.run.Verdict.TheVariants.{Accepted, Refused}
use Rattle.cedar_command.specs.declared.streams.Stop.{Stop}
use Rattle.cedar_command.specs.declared.request.Command.{Command}
use Rattle.cedar_command.specs.declared.request.Command.TheVariants.{Expression, Policies, Format}
use Rattle.cedar_command.specs.declared.streams.WriterState.{WriterState}
use Rattle.cedar_command.specs.Streams.{Stream, Writing, IsUntouched}
use Rattle.cedar_command.specs.Ends.{IsAnswerBegun, IsAnswerWritten, IsVerdict, RefusesFor, StopsWriting, tree_lines}

appended : (a b c : Option (List ℕ)) (bytes : List ℕ) → Appends a b bytes → Keeps b c → Appends a c bytes
appended None b c bytes h k = tt
appended (Some x) None c bytes h k = absurd h
appended (Some x) (Some y) None bytes h k = absurd k
appended (Some x) (Some y) (Some z) bytes h k = k ∙ h

failure_passed : (failure : Failure) (a b c : Option (List ℕ)) → AreFaultsWritten failure (record { before = a; after = b }) → Keeps b c → AreFaultsWritten failure (record { before = a; after = c })
failure_passed (Memory e) a b c h k = h
failure_passed (Errors faults) a b c h k = appended a b c (flat_map fault_line (faults_of faults)) h k

-- what was written stays so when it is passed on
pub passed : (command : Command) (table : Extensions) (text : List ℕ) (verdict : Verdict) (a b c : Option (List ℕ)) → IsAnswerWritten command table text verdict (record { before = a; after = b })
    → Keeps b c → IsAnswerWritten command table text verdict (record { before = a; after = c })
passed Expression table text Accepted a b c (tree, has, h) k = (tree, has, appended a b c (tree_lines tree.node) h k)
passed Expression table text Refused a b c (failure, tells, h) k = (failure, tells, failure_passed failure a b c h k)
passed Policies table text Accepted a b c (set, means, h) k = (set, means, appended a b c (set_lines set) h k)
passed Policies table text Refused a b c (failure, tells, h) k = (failure, tells, failure_passed failure a b c h k)
passed Format table text Accepted a b c (lines, are, h) k = (lines, are, appended a b c lines h k)
passed Format table text Refused a b c (failure, tells, h) k = (failure, tells, failure_passed failure a b c h k)

-- the faults for which a text is refused are written
pub faults_written : (command : Command) (table : Extensions) (r : Result Verdict Stop) (text : List ℕ) (failure : Failure) (a b : Option (List ℕ)) → RefusesFor command table text failure
    → IfOk r (λ v. (v ≡ Refused) × ¬ IsMemory failure) → OnOk r (AreFaultsWritten failure (record { before = a; after = b })) → IfOk r (λ v. IsAnswerWritten command table text v (record { before = a; after = b }))
faults_written Expression table (Ok v) text failure a b tells is wrote = rw is.0 (failure, tells, wrote)
faults_written Policies table (Ok v) text failure a b tells is wrote = rw is.0 (failure, tells, wrote)
faults_written Format table (Ok v) text failure a b tells is wrote = rw is.0 (failure, tells, wrote)
faults_written command table (Err stop) text failure a b tells is wrote = tt

-- a loop over faults has written one line more, and all lines at its end
pub line_more : (fs : List ParseError) (i : ℕ) (f : ParseError) (a b c : Option (List ℕ)) → i < length fs → f ≡ get_or fs i f → Appends a b (flat_map fault_line (take i fs)) → Appends b c (fault_line f)
    → Appends a c (flat_map fault_line (take (i + 1) fs))
line_more fs i f a b c more is h k =
    let one : flat_map fault_line (take (i + 1) fs) ≡ flat_map fault_line (take i fs) ++ fault_line f =
    ap (flat_map fault_line) (take_next fs i f more is) ∙ flat_map-append fault_line (take i fs) (f ∷ []) ∙ ap (λ l. flat_map fault_line (take i fs) ++ l) (append-nil (fault_line f)) in
    rw one (Appends-trans a b c (flat_map fault_line (take i fs)) (fault_line f) h k)

pub lines_whole : (fs : List ParseError) (i : ℕ) (a b : Option (List ℕ)) → i ≡ length fs → Appends a b (flat_map fault_line (take i fs)) → Appends a b (flat_map fault_line fs)
lines_whole fs i a b all h = subst (λ gs. Appends a b (flat_map fault_line gs)) (take_whole fs i (omega arith)) h

-- the lines of a text are written where it is accepted, and nothing is said where it is refused
pub lines_written : (table : Extensions) (r : Result Verdict Stop) (text lines : List ℕ) (a b : Option (List ℕ)) → AreLinesOf lines text → IfOk r (λ v. v ≡ Accepted) → OnOk r (Appends a b lines)
    → IfOk r (λ v. IsAnswerWritten Format table text v (record { before = a; after = b }))
lines_written table (Ok v) text lines a b are is wrote = rw is (lines, are, wrote)
lines_written table (Err stop) text lines a b are is wrote = tt

-- the same of the lines of a set that the text means
pub set_written : (table : Extensions) (r : Result Verdict Stop) (text : List ℕ) (set : PolicyMaps) (a b : Option (List ℕ)) → MeansSet table text (set_meaning set) → IfOk r (λ v. v ≡ Accepted) → OnOk r (Appends a b (set_lines set))
    → IfOk r (λ v. IsAnswerWritten Policies table text v (record { before = a; after = b }))
set_written table (Ok v) text set a b means is wrote = rw is (set, means, wrote)
set_written table (Err stop) text set a b means is wrote = tt

-- and of the tree that the text has
pub tree_written : (table : Extensions) (r : Result Verdict Stop) (text : List ℕ) (tree : Cell Expr) (a b : Option (List ℕ)) → IsTreeOf ReadsExpr text tree → IfOk r (λ v. v ≡ Accepted) → OnOk r (Appends a b (tree_lines tree.node))
    → IfOk r (λ v. IsAnswerWritten Expression table text v (record { before = a; after = b }))
tree_written table (Ok v) text tree a b has is wrote = rw is (tree, has, wrote)
tree_written table (Err stop) text tree a b has is wrote = tt

-- what is said of an answer to a request is said of the words that it was made of
pub verdict_asked : (r : Result Verdict Stop) (asked command : Command) (made named : Extensions) (text : List ℕ) → (asked ≡ command) × (made ≡ named)
    → IfOk r (λ v. IsVerdict asked made text v) → IfOk r (λ v. IsVerdict command named text v)
verdict_asked r asked command made named text (same, table) h =
    subst (λ t. IfOk r (λ v. IsVerdict command t text v)) table (subst (λ k. IfOk r (λ v. IsVerdict k made text v)) same h)

pub written_asked : (r : Result Verdict Stop) (asked command : Command) (made named : Extensions) (text : List ℕ) (w : Writing) → (asked ≡ command) × (made ≡ named)
    → IfOk r (λ v. IsAnswerWritten asked made text v w) → IfOk r (λ v. IsAnswerWritten command named text v w)
written_asked r asked command made named text w (same, table) h =
    subst (λ t. IfOk r (λ v. IsAnswerWritten command t text v w)) table (subst (λ k. IfOk r (λ v. IsAnswerWritten k made text v w)) same h)

-- ---- where memory is refused

pub begun : {O : Type 0} (command : Command) (table : Extensions) (text : List ℕ) (out : Stream O) → IsUntouched out → IsAnswerBegun command table text out
begun Expression table text out same = same
begun Policies table text out same = inl same
begun Format table text out same = same

-- a call that wrote nothing where it was refused memory is a begun answer's
pub nothing_begun : {O : Type 0} (r : Result Verdict Stop) (command : Command) (table : Extensions) (text : List ℕ) (out : Stream O) (state : WriterState)
    → IfErr r (λ stop. StopsWriting (IsUntouched out) state stop) → IfErr r (λ stop. StopsWriting (IsAnswerBegun command table text out) state stop)
nothing_begun (Ok v) command table text out state h = tt
nothing_begun (Err stop) command table text out state (inl memory) = inl (memory.0, begun command table text out memory.1)
nothing_begun (Err stop) command table text out state (inr failed) = inr failed

-- and one that wrote the first lines of a set that the text means
pub set_begun : {O : Type 0} (r : Result Verdict Stop) (table : Extensions) (text : List ℕ) (set : PolicyMaps) (out : Stream O) (state : WriterState) → MeansSet table text (set_meaning set)
    → IfErr r (λ stop. StopsWriting (AreFirstLinesWritten set out.writing) state stop) → IfErr r (λ stop. StopsWriting (IsAnswerBegun Policies table text out) state stop)
set_begun (Ok v) table text set out state means h = tt
set_begun (Err stop) table text set out state means (inl memory) = inl (memory.0, inr (set, means, memory.1))
set_begun (Err stop) table text set out state means (inr failed) = inr failed

pub begun_asked : {O : Type 0} (r : Result Verdict Stop) (asked command : Command) (made named : Extensions) (text : List ℕ) (out : Stream O) (state : WriterState) → (asked ≡ command) × (made ≡ named)
    → IfErr r (λ stop. StopsWriting (IsAnswerBegun asked made text out) state stop) → IfErr r (λ stop. StopsWriting (IsAnswerBegun command named text out) state stop)
begun_asked r asked command made named text out state (same, table) h =
    subst (λ t. IfErr r (λ stop. StopsWriting (IsAnswerBegun command t text out) state stop)) table
    (subst (λ k. IfErr r (λ stop. StopsWriting (IsAnswerBegun k made text out) state stop)) same h)

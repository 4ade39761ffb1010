-- What a run makes of all its texts, and how it ends.
use Rattle.std.proofs.Common.{◌≡◌, ◌≢◌, ◌⊎◌, ℕ, List, [], ◌∷◌, Option, Some, None, Result, Ok, Err, IfOk, IfErr, OnOk, IsErrAnd, IfSome, length, map, Bool, true, false, ◌==◌, true≢false, refl, sym, ap, subst, ◌∙◌, inl, inr, arith}
use Rattle.std.specs.Io.KnownBytes.{Appends, Keeps}
use Rattle.std.specs.declared.io.Error.{Error}
use Rattle.cedar_command.specs.Streams.{Writing}
use Rattle.cedar_conversion.specs.strict.Table.{table_of}
use Rattle.cedar_tool.specs.declared.ending.Ending.{Ending}
use Rattle.cedar_tool.specs.declared.ending.Ending.TheVariants.{Answered, Shown, Usage, Memory, Stream}
use Rattle.cedar_tool.specs.declared.ending.Verdict.{Verdict}
use Rattle.cedar_tool.specs.declared.ending.Verdict.TheVariants.{Failed}
use Rattle.cedar_tool.specs.declared.request.Request.{Request}
use Rattle.cedar_tool.specs.declared.streams.Console.{Console}
use Rattle.cedar_tool.specs.declared.streams.Output.{Output}
use Rattle.cedar_tool.specs.declared.streams.WriterState.{WriterState}
use Rattle.cedar_tool.specs.declared.streams.WriterState.TheVariants as writer
use Rattle.cedar_tool.specs.Answers.{IsServed, AreTried}
use Rattle.cedar_tool.specs.Ends.{Sources, Treats, input_name, AreTreated, RunEnds, IsShown, IsSaid, IsStopped, TellsRunEnd, run_status}
use Rattle.cedar_tool.specs.Streams.{IsWant, LeavesState, SpeaksOf, output_writer, output_state, output_writing}
use Rattle.cedar_tool.proofs.Bytes.{nothing_written}

-- ---- all texts

pub nothing_in : {A : Type 0} (xs : List A) → length xs ≡ 0 → xs ≡ []
nothing_in [] none = refl
nothing_in (x ∷ xs) none = absurd (omega arith)

pub something_in : {A B : Type 0} (f : A → B) (xs : List A) → ¬ (length xs ≡ 0) → map f xs ≢ []
something_in f [] some = λ none. some refl
something_in f (x ∷ xs) some = λ none. cc

pub not_zero : (n : ℕ) (b : Bool) → b ≡ (n == 0) → b ≡ false → ¬ (n ≡ 0)
not_zero n b is differs = λ none. let e : (n == 0) ≡ true = rw none refl in true≢false (sym e ∙ sym is ∙ differs)

pub treated_files : {D : Type 0} (request : Request) (t : Sources D) (names : List (List ℕ)) (r : Result Verdict Error) (w : Writing) → names ≢ []
    → IfOk r (λ v. AreTried t.files request names t.before t.after v w) → IfOk r (λ v. AreTreated request t names v w)
treated_files request t names (Ok v) w some (out, tries, wrote) =
    (out, Treats.files names out v some tries, wrote)
treated_files request t names (Err e) w some tried = tt

pub treated_input : {D : Type 0} (request : Request) (t : Sources D) (text : List ℕ) (r : Result Verdict Error) (w : Writing) → IfSome t.known (λ known. text ≡ known)
    → IfOk r (λ v. IsServed t.files request.task request.format (table_of request.styles) input_name text t.before t.after v w) → IfOk r (λ v. AreTreated request t [] v w)
treated_input request t text (Ok v) w is (out, serves, wrote) =
    (out, Treats.input text out v is serves, wrote)
treated_input request t text (Err e) w is served = tt

pub treated_unread : {D : Type 0} (request : Request) (t : Sources D) (error : Error) (r : Result Verdict Error) (a b : Option (List ℕ)) → t.failure ≡ Some error → t.after ≡ t.before → b ≡ a
    → IfOk r (λ v. (v ≡ Failed) × ¬ IsWant error) → IfOk r (λ v. AreTreated request t [] v (record { before = a; after = b }))
treated_unread request t error (Ok v) a b failed kept same is =
    rw is.0 ([], Treats.unread error failed kept, nothing_written a b same)
treated_unread request t error (Err e) a b failed kept same is = tt

-- ---- stops

-- what is passed on is what was answered
pub err_on : {E F : Type 0} (r : Result E F) (f : F) (Q : F → Type 0) → IsErrAnd r (λ e. e ≡ f) → Q f → IfErr r Q
err_on (Ok e) f Q is q = tt
err_on (Err e) f Q is q = rw is q

-- where a call of a writer ends: in the state that it comes to, or in its failure
pub left_ok : {A : Type 0} (next old state : WriterState) (r : Result A Error) → LeavesState next old r state → OnOk r (state ≡ next)
left_ok next writer.Flushed state (Ok d) left = left
left_ok next writer.Written state (Ok d) left = left
left_ok next (writer.Failed first) state (Ok d) (bad, is) = cc
left_ok next old state (Err e) left = tt

pub left_err : {A : Type 0} (next old state : WriterState) (r : Result A Error) → LeavesState next old r state → IfErr r (λ e. state ≡ writer.Failed e)
left_err next old state (Ok d) left = tt
left_err next writer.Flushed state (Err e) left = left
left_err next writer.Written state (Err e) left = left
left_err next (writer.Failed first) state (Err e) (same, is) = cc

-- ---- ends

kept_on : (a b c : Option (List ℕ)) (bytes : List ℕ) → Appends a b bytes → Keeps b c → Appends a c bytes
kept_on None b c bytes h k = tt
kept_on (Some x) None c bytes h k = absurd h
kept_on (Some x) (Some y) None bytes h k = absurd k
kept_on (Some x) (Some y) (Some z) bytes h k = k ∙ h

-- what was written is passed on, and the run answers
pub answered_ends : {D E : Type 0} (request : Request) (t : Sources D) (names : List (List ℕ)) (v : Verdict) (a b c : Option (List ℕ)) (output : WriterState) (before errors : Output E)
    → AreTreated request t names v (record { before = a; after = b }) → Keeps b c → output ≡ writer.Flushed → SpeaksOf v request.format before errors → RunEnds t (record { before = a; after = c }) output before errors (Answered v)
answered_ends request t names v a b c output before errors (out, treats, wrote) kept flushed said =
    RunEnds.answered request names v (out, treats, kept_on a b c out wrote kept) flushed said

pub said_status : (wanted end : Ending) (errors : WriterState) (status : ℕ) → status ≡ run_status end → IsSaid wanted errors end → TellsRunEnd wanted errors status
said_status wanted end errors status is said = (end, is, said)

-- what was said of the words alone
pub shown_ends : {D O E : Type 0} (t : Sources D) (contents : O → Option (List ℕ)) (old new : Console O E) (r : Result Ending Error) → t.after ≡ t.before
    → IfOk r (IsShown old new) → IfOk r (RunEnds t (output_writing contents old.output new.output) (output_state new.output) old.errors new.errors)
shown_ends t contents old new (Err e) kept shown = tt
shown_ends t contents old new (Ok (Answered v)) kept shown = absurd shown
shown_ends t contents old new (Ok Shown) kept (same, flushed) = RunEnds.shown kept flushed same
shown_ends t contents old new (Ok Usage) kept (same, said) =
    RunEnds.usage kept (nothing_written _ _ (ap (λ o. contents (output_writer o)) same)) said
shown_ends t contents old new (Ok Memory) kept shown = absurd shown
shown_ends t contents old new (Ok Stream) kept shown = absurd shown

-- why a run stopped
pub stopped_ends : {D E : Type 0} (t : Sources D) (w : Writing) (output : WriterState) (before errors : Output E) (end : Ending) → IsStopped output (output_state errors) end → RunEnds t w output before errors end
stopped_ends t w output before errors end (inl (memory, said)) = rw memory (RunEnds.memory said)
stopped_ends t w output before errors end (inr (error, is, failed)) = rw is (RunEnds.stream error failed)

-- a stream that failed before fails when it is to be said, and another one is told
pub stopped_by : {A : Type 0} (output old new : WriterState) (error : Error) (r : Result A Error) → ¬ IsWant error → LeavesState writer.Written old r new
    → IsWant error ⊎ ((output ≡ writer.Failed error) ⊎ (old ≡ writer.Failed error)) → IsStopped output new Stream
stopped_by output old new error r other left (inl want) = absurd (other want)
stopped_by output old new error r other left (inr (inl failed)) = inr (error, refl, inl failed)
stopped_by output old new error r other left (inr (inr failed)) =
    let again : LeavesState writer.Written (writer.Failed error) r new = subst (λ s. LeavesState writer.Written s r new) failed left in inr (error, refl, inr again.1)

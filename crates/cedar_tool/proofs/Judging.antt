-- What is judged of a text, from what the calls say that judge it.
use Rattle.std.proofs.Common.{◌≡◌, ℕ, List, [], Option, Result, Ok, Err, IfOk, IfErr, OnOk, MatchResult, ap, subst}
use Rattle.std.specs.declared.io.Error.{Error}
use Rattle.cedar_command.specs.Streams.{Writing, AreBytesWritten}
use Rattle.cedar_lexer.specs.Cut.{Cuts}
use Rattle.cedar_lexer.specs.Token.{Lexeme}
use Rattle.cedar_syntax.specs.tokens.Signs.{sign_limit}
use Rattle.cedar_report.specs.declared.finding.Finding.{Finding}
use Rattle.cedar_syntax.specs.declared.err.faults.Failure.{Failure}
use Rattle.cedar_syntax.specs.declared.err.faults.Failure.TheVariants.{Errors}
use Rattle.cedar_syntax.specs.declared.err.faults.ParseErrors.{ParseErrors}
use Rattle.cedar_syntax.specs.faults.ParseErrors.{IsMemory}
use Rattle.cedar_policy_store.specs.PlaceFree.{Policies, set_meaning}
use Rattle.cedar_policy_store.specs.PolicyMaps.{PolicyMaps}
use Rattle.cedar_conversion.specs.strict.Extensions.{Extensions}
use Rattle.cedar_policy_parser.specs.meaning.Formatted.{MeansSet}
use Rattle.cedar_policy_parser.specs.meaning.StrictPolicy.{IsPolicySet}
use Rattle.cedar_tool.specs.declared.ending.Verdict.{Verdict}
use Rattle.cedar_tool.specs.declared.ending.Verdict.TheVariants.{Accepted, Refused}
use Rattle.cedar_tool.specs.declared.request.Format.{Format}
use Rattle.cedar_tool.specs.declared.request.Format.TheVariants.{Human, Plain, Json}
use Rattle.cedar_tool.specs.declared.request.Task.{Task}
use Rattle.cedar_tool.specs.declared.request.Task.TheVariants as task
use Rattle.cedar_tool.specs.declared.streams.Console.{Console}
use Rattle.cedar_tool.specs.declared.streams.Output.{Output}
use Rattle.cedar_tool.specs.Answers.{Meets, Denies, Judges, IsJudged, HasMeaning}
use Rattle.cedar_tool.specs.Listed.{listed_data, AreJsonLines}
use Rattle.cedar_tool.specs.Streams.{output_writing, output_writer}
use Rattle.cedar_tool.specs.Told.{AddsReport, Finds, IsToldOn, FailsTask, TellsRefusal, FindsFaults, lines_told}
use Rattle.cedar_tool.proofs.Bytes.{nothing_written}

-- a set that is answered is what the text means under the table
pub set_meant : {S : Type 0} (table : Extensions) (src : List ℕ) (meaning : S → Policies) (r : Result S Failure)
    → IfOk r (λ set. (ts : List Lexeme) × Cuts src ts × IsPolicySet table sign_limit ts (meaning set)) → IfOk r (λ set. HasMeaning table src)
set_meant table src meaning (Ok set) h = (meaning set, h)
set_meant table src meaning (Err f) h = tt

-- a text that means a set is refused for want of memory alone
pub set_only : {S : Type 0} (table : Extensions) (src : List ℕ) (meaning : S → Policies) (r : Result S Failure)
    → ((ts : List Lexeme) (set : Policies) → Cuts src ts → IsPolicySet table sign_limit ts set → MatchResult r (λ s. meaning s ≡ set) IsMemory)
    → HasMeaning table src → IfErr r IsMemory
set_only table src meaning (Ok s) only meant = tt
set_only table src meaning (Err f) only (set, (ts, cut, means)) = only ts set cut means

-- what is told is written where it belongs
pub told_bytes : {O E : Type 0} (contents : O → Option (List ℕ)) (format : Format) (name : List ℕ) (findings : List Finding) (old new : Console O E) → IsToldOn contents format name findings old new
    → AreBytesWritten (lines_told format name findings) (output_writing contents old.output new.output)
told_bytes contents Json name findings old new (same, wrote) = wrote
told_bytes contents Plain name findings old new (same, said) = nothing_written _ _ (ap (λ o. contents (output_writer o)) same)
told_bytes contents (Human colours) name findings old new (same, said) = nothing_written _ _ (ap (λ o. contents (output_writer o)) same)

-- a text is refused whose faults were told
pub refused : {O E : Type 0} (contents : O → Option (List ℕ)) (t : Task) (format : Format) (table : Extensions) (name text : List ℕ) (findings : List Finding) (old new : Console O E) → Denies t table text
    → Finds t table text findings → IsToldOn contents format name findings old new → IsJudged t format table name text Refused (output_writing contents old.output new.output)
refused contents t format table name text findings old new denied finds told =
    (lines_told format name findings, Judges.refused findings denied finds, told_bytes contents format name findings old new told)

-- they were found
found : {O E : Type 0} (contents : O → Option (List ℕ)) (t : Task) (format : Format) (table : Extensions) (name text : List ℕ) (failure : Failure) (old new : Console O E) → FailsTask t table text failure
    → (tells : TellsRefusal contents t format table name text failure old new) → Finds t table text tells.findings
found contents t format table name text failure old new refuses tells =
    Finds.faults tells.faults tells.findings (subst (FailsTask t table text) tells.are refuses) tells.tells

-- the same of a call's answer
pub refused_by : {O E : Type 0} (contents : O → Option (List ℕ)) (t : Task) (format : Format) (table : Extensions) (name text : List ℕ) (old new : Console O E) (failure : Failure) (r : Result Verdict Error)
    → (¬ IsMemory failure → Denies t table text) → FailsTask t table text failure → IfOk r (λ v. (v ≡ Refused) × ¬ IsMemory failure)
    → OnOk r (TellsRefusal contents t format table name text failure old new) → IfOk r (λ v. IsJudged t format table name text v (output_writing contents old.output new.output))
refused_by contents t format table name text old new failure (Ok v) denied refuses is tells =
    rw is.0 (refused contents t format table name text tells.findings old new (denied is.1) (found contents t format table name text failure old new refuses tells) tells.told)
refused_by contents t format table name text old new failure (Err e) denied refuses is tells = tt

-- a text is accepted of which nothing is written
pub silent : (t : Task) (format : Format) (table : Extensions) (name text : List ℕ) (a b : Option (List ℕ)) → b ≡ a → Meets t table name text [] → IsJudged t format table name text Accepted (record { before = a; after = b })
silent t format table name text a b same answers = ([], Judges.accepted [] answers, nothing_written a b same)

-- and one whose policies are listed
pub listed_by : (format : Format) (table : Extensions) (name text : List ℕ) (set : PolicyMaps) (r : Result Verdict Error) (w : Writing) → MeansSet table text (set_meaning set) → IfOk r (λ v. v ≡ Accepted)
    → IfOk r (λ v. (lines : List ℕ) × AreJsonLines (listed_data name text set) lines × AreBytesWritten lines w) → IfOk r (λ v. IsJudged task.List format table name text v w)
listed_by format table name text set (Ok v) w means is (lines, are, wrote) = rw is (lines, Judges.accepted lines (set, means, are), wrote)
listed_by format table name text set (Err e) w means is wrote = tt

-- a report's lines are written as JSON
pub told_json : {A E : Type 0} (name : List ℕ) (findings : List Finding) (a b : Output E) (bytes : List ℕ) (w : Writing) (r : Result A Error) → b ≡ a → AddsReport Json name findings [] bytes
    → OnOk r (AreBytesWritten bytes w) → OnOk r ((b ≡ a) × AreBytesWritten (lines_told Json name findings) w)
told_json name findings a b bytes w (Ok d) same is wrote =
    let P : List ℕ → Type 0 = λ bs. AreBytesWritten bs w in
    (same, subst P is wrote)
told_json name findings a b bytes w (Err e) same is wrote = tt

-- of a text's faults, under its name
pub told_faults : {O E : Type 0} (contents : O → Option (List ℕ)) (t : Task) (format : Format) (table : Extensions) (given name text : List ℕ) (failure : Failure) (faults : ParseErrors) (findings : List Finding) (old new : Console O E) → failure ≡ Errors faults
    → given ≡ name → FindsFaults t table text faults findings → IsToldOn contents format given findings old new → TellsRefusal contents t format table name text failure old new
told_faults contents t format table given name text failure faults findings old new are same tells told = record {
  faults = faults;
  are = are;
  findings = findings;
  tells = tells;
  told = subst (λ n. IsToldOn contents format n findings old new) same told;
}

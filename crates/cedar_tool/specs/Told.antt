-- What is told of a text of which what is asked doesn't hold, and where.
use Rattle.std.specs.Prelude.{◌≡◌, ◌≢◌, ℕ, false, List, [], ◌∷◌, ◌++◌, Option, None, codes, flat_map, nat_eq, ⊤}
use Rattle.std.specs.List.{common_prefix_len}
use Rattle.cedar_conversion.specs.strict.Extensions.{Extensions}
use Rattle.cedar_grammar.specs.faults.MendedFaults.{IsMendedRefusal, PoliciesBefore}
use Rattle.cedar_grammar.specs.grammar.LoosePolicies.{ReadsPolicies}
use Rattle.cedar_layout.specs.declared.options.LayoutOptions.{LayoutOptions}
use Rattle.cedar_policy_parser.specs.faults.Refused.{RefusesSet}
use Rattle.cedar_policy_parser.specs.meaning.LaidOut.{IsLayoutOf}
use Rattle.cedar_report.specs.declared.finding.Finding.{Finding}
use Rattle.cedar_report.specs.Behind.{IsToldBeyond}
use Rattle.cedar_report.specs.Findings.{AreTold, IsSeenAt}
use Rattle.cedar_report.specs.JsonLines.{json_line}
use Rattle.cedar_report.specs.PlainLines.{plain_line}
use Rattle.cedar_syntax.specs.declared.err.faults.Failure.{Failure}
use Rattle.cedar_syntax.specs.declared.err.faults.Failure.TheVariants.{Errors}
use Rattle.cedar_syntax.specs.declared.err.faults.ParseErrors.{ParseErrors}
use Rattle.cedar_syntax.specs.faults.ParseErrors.{faults_of}
use Rattle.cedar_tool.specs.declared.request.Format.{Format}
use Rattle.cedar_tool.specs.declared.request.Format.TheVariants.{Human, Plain, Json}
use Rattle.cedar_tool.specs.declared.request.Purpose.TheVariants as purpose
use Rattle.cedar_tool.specs.declared.request.Task.{Task}
use Rattle.cedar_tool.specs.declared.request.Task.TheVariants.{Check, List as Listing, Format as Formatting}
use Rattle.cedar_tool.specs.declared.streams.Console.{Console}
use Rattle.cedar_tool.specs.declared.streams.WriterState.TheVariants.{Written}
use Rattle.cedar_command.specs.Streams.{AreBytesWritten}
use Rattle.cedar_tool.specs.Streams.{output_state, output_writing}

-- with which failures a text fails what is asked of it: `format` asks for a tree alone
abbrev pub FailsTask : Task → Extensions → List ℕ → Failure → Type 0
FailsTask Check table text failure = RefusesSet table failure text
FailsTask Listing table text failure = RefusesSet table failure text
FailsTask (Formatting options does) table text failure =
    IsMendedRefusal ReadsPolicies PoliciesBefore text failure

-- the findings of a text's faults, and those behind a place where no token begins; of a text that
-- is to be laid out only why it has no tree
abbrev pub FindsFaults : Task → Extensions → List ℕ → ParseErrors → List Finding → Type 0
FindsFaults Check table text faults findings =
    IsToldBeyond table text (faults_of faults) findings
FindsFaults Listing table text faults findings =
    IsToldBeyond table text (faults_of faults) findings
FindsFaults (Formatting options does) table text faults findings =
    AreTold text (faults_of faults) findings

-- the one finding of a text that isn't laid out: it stands behind what the layout has in common
-- with it
pub record TellsLayout (text laid : List ℕ) (findings : List Finding) : Type 0 where
  pub place : ℕ
  pub first : place ≡ common_prefix_len nat_eq text laid
  pub finding : Finding
  pub alone : findings ≡ finding ∷ []
  pub code : finding.code.now ≡ codes "NotFormatted"
  pub range : IsSeenAt text place place finding.extent
  pub cause : IsSeenAt text place place finding.cause
  pub label : finding.label ≡ None
  pub expected : finding.expected.items ≡ []
  pub related : finding.related.items ≡ []
  pub follows : finding.follows ≡ false

-- the findings of a text of which what is asked doesn't hold: those of its faults, or of
-- `format --check` where it is laid out otherwise
pub data Finds (task : Task) (table : Extensions) (text : List ℕ) : List Finding → Type 0 where
  faults : (faults : ParseErrors) (findings : List Finding) →
      FailsTask task table text (Errors faults) → FindsFaults task table text faults findings →
      Finds task table text findings
  layout : (options : LayoutOptions) (laid : List ℕ) (findings : List Finding) →
      task ≡ Formatting options purpose.Check → IsLayoutOf options text laid → laid ≢ text →
      TellsLayout text laid findings → Finds task table text findings

-- A report of findings is put behind a text: as JSON an object's line for each, plain a line for
-- each. The words that people read aren't stated.
abbrev pub AddsReport : Format → List ℕ → List Finding → List ℕ → List ℕ → Type 0
AddsReport Json name findings text more = more ≡ text ++ flat_map (json_line name) findings
AddsReport Plain name findings text more = more ≡ text ++ flat_map (plain_line name) findings
AddsReport (Human colours) name findings text more = ⊤

-- what standard output has of findings under the name of their text: as JSON an object's line for
-- each, else nothing
abbrev pub lines_told : Format → List ℕ → List Finding → List ℕ
lines_told Json name findings = flat_map (json_line name) findings
lines_told Plain name findings = []
lines_told (Human colours) name findings = []

-- Findings stand on standard output as JSON. Else the last call of the stream of errors is a write
-- that succeeded, of which words isn't stated. The other stream stays as it was.
abbrev pub IsToldOn : {O E : Type 0} → (O → Option (List ℕ)) → Format → List ℕ → List Finding
    → Console O E → Console O E → Type 0
IsToldOn contents Json name findings old new = (new.errors ≡ old.errors)
    × AreBytesWritten (lines_told Json name findings)
    (output_writing contents old.output new.output)
IsToldOn contents Plain name findings old new =
    (new.output ≡ old.output) × (output_state new.errors ≡ Written)
IsToldOn contents (Human colours) name findings old new =
    (new.output ≡ old.output) × (output_state new.errors ≡ Written)

-- so they are where a text is refused for a failure
pub record TellsRefusal {O E : Type 0} (contents : O → Option (List ℕ)) (task : Task)
    (format : Format) (table : Extensions) (name text : List ℕ) (failure : Failure)
    (old new : Console O E) : Type 0 where
  pub faults : ParseErrors
  pub are : failure ≡ Errors faults
  pub findings : List Finding
  pub tells : FindsFaults task table text faults findings
  pub told : IsToldOn contents format name findings old new

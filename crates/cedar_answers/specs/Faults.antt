-- What a host reads of a fault, and what of a finding it is.
use Rattle.std.specs.Prelude.{◌≡◌, ℕ, List, map, string_bytes}
use Rattle.std.specs.List.{AllZip}
use Rattle.std.specs.Option.{is_some}
use Rattle.cedar_lexer.specs.Names.{kind_name}
use Rattle.cedar_report.specs.declared.finding.Finding.{Finding}
use Rattle.cedar_report.specs.declared.finding.Related.{Related}
use Rattle.cedar_report.specs.Findings.{AreTold}
use Rattle.cedar_syntax.specs.declared.err.faults.ParseError.{ParseError}
use Rattle.cedar_answers.specs.Made.{optional_text}
use Rattle.cedar_answers.specs.Places.{extent_range, optional_range}
use Rattle.cedar_answers.specs.declared.answer.CedarFault.{CedarFault}
use Rattle.cedar_answers.specs.declared.answer.CedarRange.{CedarRange}
use Rattle.cedar_answers.specs.declared.answer.CedarRelated.{CedarRelated}

-- another place with what it is, as it is read
abbrev pub related_read : CedarRelated → CedarRange × List ℕ
related_read related = (related.place, related.text.now)

-- and as it was found
abbrev pub related_found : Related → CedarRange × List ℕ
related_found related = (extent_range related.extent, string_bytes related.text)

-- a fault is read as this finding
pub record IsFaultRead (finding : Finding) (fault : CedarFault) : Type 0 where
  pub kind : fault.kind.now ≡ finding.code.now
  pub message : fault.message.now ≡ string_bytes finding.message
  pub label : fault.label.now ≡ optional_text finding.label
  pub help : fault.help.now ≡ optional_text finding.help
  pub expected : map (λ name. name.now) fault.expected.now ≡ map kind_name finding.expected.items
  pub related : map related_read fault.related.now ≡ map related_found finding.related.items
  pub place : fault.place ≡ optional_range finding.extent
  pub cause : fault.cause ≡ optional_range finding.cause
  pub has_place : fault.has_place ≡ is_some finding.extent
  pub follows : fault.follows ≡ finding.follows

-- the faults of a text, each read as a finding that tells it, in their order
abbrev pub AreFaultsTold : List ℕ → List ParseError → List CedarFault → Type 0
AreFaultsTold text faults told =
    (findings : List Finding) × AreTold text faults findings × AllZip IsFaultRead findings told

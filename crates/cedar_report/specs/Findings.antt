-- What a finding has of its fault: as many findings as faults, in the order of the list.
use Rattle.std.specs.Prelude.{◌≡◌, ℕ, List, [], Option, Some, None, string_bytes}
use Rattle.std.specs.List.{All, AllZip}
use Rattle.cedar_lexer.specs.declared.token.TokenKind.{TokenKind}
use Rattle.cedar_syntax.specs.declared.err.faults.ParseError.{ParseError}
use Rattle.cedar_syntax.specs.declared.err.faults.ParseError.TheVariants.{ToCST, ToAST}
use Rattle.cedar_syntax.specs.faults.ParseErrors.{span_of}
use Rattle.cedar_syntax.specs.faults.RawFault.{expected_of}
use Rattle.cedar_syntax.specs.places.Span.{Span, end_of}
use Rattle.cedar_syntax.specs.messages.Messages.{fault_message}
use Rattle.cedar_report.specs.declared.finding.Extent.{Extent}
use Rattle.cedar_report.specs.declared.finding.Finding.{Finding}
use Rattle.cedar_report.specs.declared.finding.Related.{Related}
use Rattle.cedar_report.specs.Codes.{code_of}
use Rattle.cedar_report.specs.Spots.{spot_of}

-- the kinds of token that could have stood where a fault stands
abbrev pub kinds_expected : ParseError → List TokenKind
kinds_expected (ToCST fault) = expected_of fault.raw
kinds_expected (ToAST fault) = []

-- both ends of a range have the lines and columns of its bytes
abbrev pub IsSeen : List ℕ → Extent → Type 0
IsSeen text extent =
    (extent.from ≡ spot_of text extent.start) × (extent.to ≡ spot_of text extent.end)

-- a range is these bytes, seen
abbrev pub IsSeenAt : List ℕ → ℕ → ℕ → Option Extent → Type 0
IsSeenAt text start end (Some extent) =
    (extent.start ≡ start) × (extent.end ≡ end) × IsSeen text extent
IsSeenAt text start end None = ⊥

-- there is a range, and it is seen
abbrev pub IsSeenSomewhere : List ℕ → Option Extent → Type 0
IsSeenSomewhere text (Some extent) = IsSeen text extent
IsSeenSomewhere text None = ⊥

-- there is no range
abbrev pub IsNowhere : Option Extent → Type 0
IsNowhere (Some extent) = ⊥
IsNowhere None = Unit {0}

-- the bytes of a fault, seen; neither is there where it has no place
abbrev pub HasBytes : List ℕ → Option Span → Option Extent → Type 0
HasBytes text None extent = IsNowhere extent
HasBytes text (Some span) extent = IsSeenAt text span.offset (end_of span) extent

-- a cause is seen, and there is one where the fault has a place
abbrev pub HasCause : List ℕ → Option Span → Option Extent → Type 0
HasCause text None extent = IsNowhere extent
HasCause text (Some span) extent = IsSeenSomewhere text extent

abbrev pub AreRelatedSeen : List ℕ → List Related → Type 0
AreRelatedSeen text related = All (λ other. IsSeen text other.extent) related

-- a finding tells a fault of a text
pub record TellsFault (text : List ℕ) (fault : ParseError) (finding : Finding) : Type 0 where
  pub code : finding.code.now ≡ code_of fault
  pub bytes : HasBytes text (span_of fault) finding.extent
  pub cause : HasCause text (span_of fault) finding.cause
  pub message : string_bytes finding.message ≡ fault_message fault
  pub expected : finding.expected.items ≡ kinds_expected fault
  pub related : AreRelatedSeen text finding.related.items

-- the findings tell the faults of a text, one by one
abbrev pub AreTold : List ℕ → List ParseError → List Finding → Type 0
AreTold text faults findings = AllZip (TellsFault text) faults findings

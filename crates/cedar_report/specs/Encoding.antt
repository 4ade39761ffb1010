-- The one finding of bytes that are no UTF-8 text.
use Rattle.std.specs.Prelude.{◌≡◌, ℕ, List, [], ◌∷◌, None, false, codes, IsUtf8, take}
use Rattle.std.specs.Str.{IsValidUpTo}
use Rattle.cedar_report.specs.declared.finding.Finding.{Finding}
use Rattle.cedar_report.specs.Findings.{IsSeenAt}

-- it stands at the first byte behind the text that the bytes begin with, which is shown
pub record TellsEncoding (bytes text : List ℕ) (findings : List Finding) : Type 0 where
  pub no_text : ¬ (IsUtf8 bytes)
  pub place : ℕ
  pub first : IsValidUpTo bytes place
  pub shown : text ≡ take place bytes
  pub finding : Finding
  pub alone : findings ≡ finding ∷ []
  pub code : finding.code.now ≡ codes "NotUtf8"
  pub range : IsSeenAt text place place finding.extent
  pub cause : IsSeenAt text place place finding.cause
  pub label : finding.label ≡ None
  pub expected : finding.expected.items ≡ []
  pub related : finding.related.items ≡ []
  pub follows : finding.follows ≡ false

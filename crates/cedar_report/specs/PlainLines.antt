-- A finding as one line: `NAME:LINE:COLUMN: message: label (help)`.
use Rattle.std.specs.Prelude.{ℕ, List, [], ◌++◌, Bool, true, false, Option, Some, None, codes, string_bytes, String}
use Rattle.std.specs.declared.alloc.Global.{Global}
use Rattle.std.specs.Fmt.{decimal}
use Rattle.cedar_report.specs.declared.finding.Extent.{Extent}
use Rattle.cedar_report.specs.declared.finding.Finding.{Finding}
use Rattle.cedar_report.specs.Escapes.{escaped}

-- where the cause begins, if it has a place
abbrev pub spot_text : Option Extent → List ℕ
spot_text (Some extent) =
    codes ":" ++ decimal extent.from.line ++ codes ":" ++ decimal extent.from.column
spot_text None = []

abbrev pub label_text : Option (String Global) → List ℕ
label_text (Some label) = codes ": " ++ escaped (string_bytes label)
label_text None = []

abbrev pub help_text : Option (String Global) → List ℕ
help_text (Some help) = codes " (" ++ escaped (string_bytes help) ++ codes ")"
help_text None = []

abbrev pub follows_text : Bool → List ℕ
follows_text true = codes " (may follow from the fault before)"
follows_text false = []

-- what is said of a fault at its place
abbrev pub told_text : Finding → List ℕ
told_text finding = escaped (string_bytes finding.message) ++ label_text finding.label
    ++ help_text finding.help ++ follows_text finding.follows ++ codes "\n"

abbrev pub plain_line : List ℕ → Finding → List ℕ
plain_line name finding = escaped name ++ spot_text finding.cause ++ codes ": "
    ++ told_text finding

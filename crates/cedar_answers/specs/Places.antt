-- Ranges and positions as a host reads them: those of `cedar_report`.
use Rattle.std.specs.Prelude.{◌≡◌, ℕ, List, Option, Some, None}
use Rattle.std.specs.Str.{IsUtf8}
use Rattle.cedar_report.specs.declared.finding.Extent.{Extent}
use Rattle.cedar_report.specs.declared.lines.Spot.{Spot}
use Rattle.cedar_report.specs.Spots.{spot_of}
use Rattle.cedar_syntax.specs.declared.loc.Loc.{Loc}
use Rattle.cedar_syntax.specs.places.Span.{end_of}
use Rattle.cedar_answers.specs.declared.answer.CedarPosition.{CedarPosition}
use Rattle.cedar_answers.specs.declared.answer.CedarRange.{CedarRange}

-- a spot as it is told
abbrev pub spot_position : Spot → CedarPosition
spot_position spot =
    record { line = spot.line; column = spot.column; utf16_column = spot.utf16 }

-- where there is none
abbrev pub no_position : CedarPosition
no_position = record { line = 0; column = 0; utf16_column = 0 }

abbrev pub extent_range : Extent → CedarRange
extent_range extent = record {
  start = extent.start;
  end = extent.end;
  from = spot_position extent.from;
  to = spot_position extent.to;
}

abbrev pub no_range : CedarRange
no_range = record { start = 0; end = 0; from = no_position; to = no_position }

abbrev pub optional_range : Option Extent → CedarRange
optional_range None = no_range
optional_range (Some extent) = extent_range extent

-- where a node of a tree stands in its text
abbrev pub node_range : List ℕ → Option Loc → CedarRange
node_range text None = no_range
node_range text (Some loc) = record {
  start = loc.span.offset;
  end = end_of loc.span;
  from = spot_position (spot_of text loc.span.offset);
  to = spot_position (spot_of text (end_of loc.span));
}

-- What is told of the place of a byte: by the status whether there is a text, and where in it the
-- byte stands.
pub data IsPlaced (text : List ℕ) (offset status : ℕ) (position : CedarPosition) : Type 0 where
  placed : status ≡ 0 → IsUtf8 text → position ≡ spot_position (spot_of text offset)
      → IsPlaced text offset status position
  no_text : status ≡ 2 → ¬ IsUtf8 text → position ≡ no_position
      → IsPlaced text offset status position
  no_memory : status ≡ 3 → IsUtf8 text → position ≡ no_position
      → IsPlaced text offset status position

-- The range of a place, seen.
use Rattle.std.proofs.Common.{◌≡◌, ℕ, List, Some, ap, ◌∙◌}
use Rattle.cedar_report.specs.declared.finding.Extent.{Extent}
use Rattle.cedar_report.specs.Findings.{IsSeen}
use Rattle.cedar_report.specs.Spots.{spot_of}
use Rattle.cedar_syntax.specs.declared.loc.Loc.{Loc}
use Rattle.cedar_syntax.specs.places.Span.{end_of}
use Rattle.cedar_answers.specs.Places.{extent_range, node_range, spot_position}

pub placed : (text : List ℕ) (extent : Extent) (loc : Loc) → extent.start ≡ loc.span.offset → extent.end ≡ end_of loc.span → IsSeen text extent → extent_range extent ≡ node_range text (Some loc)
placed text extent loc begins ends seen =
    let from = seen.0 ∙ ap (spot_of text) begins in
    let to = seen.1 ∙ ap (spot_of text) ends in
    λ i. record { start = begins i; end = ends i; from = spot_position (from i); to = spot_position (to i) }

-- The words from here on are read.
use Rattle.std.proofs.Common.{◌≡◌, ◌≤◌, length, drop}
use Rattle.cedar_layout.specs.Measures as spec
use Rattle.cedar_layout.proofs.measures.measures_of.Given as goal

abbrev pub invariant-loop-at : goal.invariant-loop-at
invariant-loop-at l =
    (l.place ≡ (spec.scanned (drop l.at l.spots)).place) × (l.ahead ≡ (spec.scanned (drop l.at l.spots)).ahead)
    × (l.behind.items ≡ (spec.scanned (drop l.at l.spots)).behind)
    × (l.measures.items ≡ spec.kept_measures (spec.scanned (drop l.at l.spots)).words) × (l.at ≤ length l.spots)

abbrev pub decreases-loop-at : goal.decreases-loop-at
decreases-loop-at l = l.at

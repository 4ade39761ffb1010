-- The spots so far, and those of the items that are left.
use Rattle.std.proofs.Common.{◌≡◌, ◌++◌, drop}
use Rattle.cedar_layout.specs.Spots as spec
use Rattle.cedar_layout.specs.Read.{items_now}
use Rattle.cedar_layout.proofs.spots.spots.Given as goal

abbrev pub invariant-loop-piece : goal.invariant-loop-piece
invariant-loop-piece l = l.spots.items ++ spec.spots_from l.brackets.items l.before l.last l.led l.commented l.flags.items (items_now (drop l.piece-index l.pieces)) ≡ spec.spots_of (items_now l.pieces)

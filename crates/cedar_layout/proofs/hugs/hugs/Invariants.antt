-- The items from here on are read.
use Rattle.std.proofs.Common.{◌≡◌, ◌≤◌, length, drop}
use Rattle.cedar_layout.specs.Hugs as spec
use Rattle.cedar_layout.specs.Read.{items_now}
use Rattle.cedar_layout.proofs.hugs.hugs.Given as goal

abbrev pub invariant-loop-at : goal.invariant-loop-at
invariant-loop-at l = (spec.tail_now l.tail ≡ spec.tail_of (items_now (drop l.at l.pieces))) × (l.at ≤ length l.pieces)

abbrev pub decreases-loop-at : goal.decreases-loop-at
decreases-loop-at l = l.at

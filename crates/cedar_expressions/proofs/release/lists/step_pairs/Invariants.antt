-- What is left of the list has no more forks than the whole, and what waited still waits.
use Rattle.std.proofs.Common.{◌≡◌, ◌≤◌, length}
use Rattle.cedar_expressions.specs.Forks.{pairs_forks}
use Rattle.cedar_expressions.proofs.release.lists.step_pairs.Given as goal

abbrev pub invariant-loop-key : goal.invariant-loop-key
invariant-loop-key l = (pairs_forks l.pairs.items ≤ pairs_forks l.fn.pairs.items) × (l.up ≡ l.fn.up)

abbrev pub decreases-loop-key : goal.decreases-loop-key
decreases-loop-key l = length l.pairs.items

-- What is left of the list has no more forks than the whole, and what waited still waits.
use Rattle.std.proofs.Common.{◌≡◌, ◌≤◌, length}
use Rattle.cedar_expressions.specs.Forks.{items_forks}
use Rattle.cedar_expressions.proofs.release.lists.step_items.Given as goal

abbrev pub invariant-loop-item : goal.invariant-loop-item
invariant-loop-item l = (items_forks l.items.items ≤ items_forks l.fn.items.items) × (l.up ≡ l.fn.up)

abbrev pub decreases-loop-item : goal.decreases-loop-item
decreases-loop-item l = length l.items.items

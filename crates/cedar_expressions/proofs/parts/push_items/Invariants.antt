-- What waits are those from `left` on, before what waited.
use Rattle.std.proofs.Common.{◌≡◌, ◌≤◌, ◌++◌, length, drop}
use Rattle.cedar_expressions.specs.Walks.{shown}
use Rattle.cedar_expressions.proofs.parts.push_items.Given as goal

abbrev pub invariant-loop-left : goal.invariant-loop-left
invariant-loop-left l = (l.left ≤ length l.fn.items) × (shown l.rest ≡ drop l.left l.fn.items ++ shown l.fn.rest)

abbrev pub decreases-loop-left : goal.decreases-loop-left
decreases-loop-left l = l.left

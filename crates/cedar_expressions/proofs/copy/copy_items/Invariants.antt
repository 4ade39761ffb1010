-- What was taken were the newest copies, one for each item that isn't left.
use Rattle.std.proofs.Common.{◌≡◌, ◌++◌, ◌+◌, length}
use Rattle.cedar_expressions.proofs.copy.copy_items.Given as goal

abbrev pub invariant-loop-left : goal.invariant-loop-left
invariant-loop-left l = (l.fn.copies ≡ l.all ++ l.copies) × (length l.all + l.left ≡ length l.fn.items)

abbrev pub decreases-loop-left : goal.decreases-loop-left
decreases-loop-left l = l.left

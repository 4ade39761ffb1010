-- What is held are the copies of those of all that stand in no other behind the first `left`.
use Rattle.std.proofs.Common.{◌≡◌, ◌≤◌, [], ◌∷◌, length, map}
use Rattle.cedar_expressions.specs.Copies.{copied}
use Rattle.cedar_expressions.proofs.CopiesAt.{walk}
use Rattle.cedar_expressions.proofs.copy.copy_all.Given as goal

abbrev pub invariant-loop-left : goal.invariant-loop-left
invariant-loop-left l = (l.left ≤ length l.all.items) × (l.copies ≡ map (copied l.fn.entities) (walk l.left (l.fn.expr ∷ [])))

abbrev pub decreases-loop-left : goal.decreases-loop-left
decreases-loop-left l = l.left

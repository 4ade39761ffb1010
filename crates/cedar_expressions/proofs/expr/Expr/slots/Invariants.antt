-- The slots that were found, and those in what waits, are all of the expression's.
use Rattle.std.proofs.Common.{◌≡◌, ◌++◌}
use Rattle.std.specs.List.{flat_map, sum_by}
use Rattle.cedar_expressions.specs.Parts.{size}
use Rattle.cedar_expressions.specs.Slots.{slots_in}
use Rattle.cedar_expressions.specs.Walks.{shown}
use Rattle.cedar_expressions.proofs.expr.Expr.slots.Given as goal

abbrev pub invariant-loop-expr : goal.invariant-loop-expr
invariant-loop-expr l = l.found.items ++ flat_map slots_in (shown l.rest) ≡ slots_in l.fn.self

abbrev pub decreases-loop-expr : goal.decreases-loop-expr
decreases-loop-expr l = sum_by size (shown l.rest)

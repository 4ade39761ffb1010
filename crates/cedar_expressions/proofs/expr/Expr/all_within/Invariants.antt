-- The expressions that were met, and those in what waits, are all in the expression.
use Rattle.std.proofs.Common.{◌≡◌, ◌++◌}
use Rattle.std.specs.List.{flat_map, sum_by}
use Rattle.cedar_expressions.specs.Parts.{size, subexpressions}
use Rattle.cedar_expressions.specs.Walks.{shown}
use Rattle.cedar_expressions.proofs.expr.Expr.all_within.Given as goal

abbrev pub invariant-loop-expr : goal.invariant-loop-expr
invariant-loop-expr l = shown l.all.items ++ flat_map subexpressions (shown l.rest) ≡ subexpressions l.fn.self

abbrev pub decreases-loop-expr : goal.decreases-loop-expr
decreases-loop-expr l = sum_by size (shown l.rest)

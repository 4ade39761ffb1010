use Rattle.std.proofs.Common.{◌≡◌}
use Rattle.cedar_expressions.specs.Forks.{forks, calls}
use Rattle.cedar_expressions.proofs.expr.Expr.is_stem.Given as goal

abbrev pub invariant-loop-operand : goal.invariant-loop-operand
invariant-loop-operand l = forks l.at ≡ forks l.fn.self

abbrev pub decreases-loop-operand : goal.decreases-loop-operand
decreases-loop-operand l = calls l.at

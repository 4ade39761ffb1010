use Rattle.std.proofs.Common.{◌≡◌, ◌+◌}
use Rattle.cedar_syntax.specs.trees.Weight.{expr_weight}
use Rattle.cedar_syntax.proofs.cst.Expr.join.Given as goal

abbrev pub invariant-rest : goal.invariant-rest
invariant-rest l =
    expr_weight l.rest + expr_weight l.row
    ≡ expr_weight l.initial.rest + expr_weight l.initial.row

abbrev pub decreases-rest : goal.decreases-rest
decreases-rest l = expr_weight l.rest

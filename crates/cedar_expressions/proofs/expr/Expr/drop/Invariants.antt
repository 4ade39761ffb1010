use Rattle.cedar_expressions.specs.Forks.{waiting_forks}
use Rattle.cedar_expressions.proofs.expr.Expr.drop.Given as goal

abbrev pub decreases-loop-waiting : goal.decreases-loop-waiting
decreases-loop-waiting l = waiting_forks l.waiting

use Rattle.cedar_syntax.specs.trees.Weight.{waiting_weight}
use Rattle.cedar_syntax.proofs.cst.ExprImpl.let_go.Given as goal

abbrev pub decreases-loop-pending : goal.decreases-loop-pending
decreases-loop-pending l = waiting_weight l.pending

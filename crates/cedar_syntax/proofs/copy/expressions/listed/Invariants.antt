use Rattle.cedar_syntax.specs.printing.Pieces.{exprs_in}
use Rattle.cedar_syntax.specs.trees.Inside.{Leads, lent}
use Rattle.cedar_syntax.proofs.InsideWeights.{exprs_weight}
use Rattle.cedar_syntax.proofs.copy.expressions.listed.Given as goal

abbrev pub invariant-loop-expr : goal.invariant-loop-expr
invariant-loop-expr g l = Leads (lent l.order) (exprs_in l.pieces) (g.T.Unfold.inside l.tree)

abbrev pub decreases-loop-expr : goal.decreases-loop-expr
decreases-loop-expr g l = exprs_weight (exprs_in l.pieces)

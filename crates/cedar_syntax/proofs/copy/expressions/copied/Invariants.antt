use Rattle.std.proofs.Common.{length}
use Rattle.cedar_syntax.specs.trees.Inside.{Leads, lent}
use Rattle.cedar_syntax.proofs.copy.expressions.copied.Given as goal

abbrev pub invariant-loop-expr : goal.invariant-loop-expr
invariant-loop-expr g l = Leads (lent l.order) l.copies (g.T.Unfold.inside l.tree)

abbrev pub decreases-loop-expr : goal.decreases-loop-expr
decreases-loop-expr g l = length l.order

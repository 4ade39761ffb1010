use Rattle.cedar_syntax.specs.printing.Pieces.{exprs_in}
use Rattle.cedar_syntax.proofs.Copying.{one_more}
use Rattle.cedar_syntax.proofs.InsideWeights.{listed_smaller}
use Rattle.cedar_syntax.proofs.copy.expressions.listed.Goals as goal

pub loop-expr-smaller : goal.loop-expr-smaller
loop-expr-smaller g c = listed_smaller c.in-Some.expr c.inner.result.now c.as_ref-linked.result.now c.next_expr.result (exprs_in c.loop-expr.pieces) (exprs_in c.next_expr.new.pieces) (exprs_in c.unfold-in-Some.new.rest) (exprs_in c.unfold-in-Some-2.new.rest) c.next_expr.ensures.next c.in-Some.is c.inner.ensures c.as_ref-linked.ensures c.in_ok-unfold-2.ensures.exprs c.in_ok-unfold-3.ensures.exprs

pub loop-expr-preserved : goal.loop-expr-preserved
loop-expr-preserved g c = one_more c.loop-expr.order c.push.new.self c.in-Some.expr c.inner.result.now c.as_ref-linked.result.now c.next_expr.result (exprs_in c.loop-expr.pieces) (exprs_in c.next_expr.new.pieces) (exprs_in c.unfold-in-Some.new.rest) (exprs_in c.unfold-in-Some-2.new.rest) (g.T.Unfold.inside c.args.tree.now) c.loop-expr.invariant c.next_expr.ensures.next c.in-Some.is c.in_ok-push.ensures.ok c.inner.ensures c.as_ref-linked.ensures c.in_ok-unfold-2.ensures.exprs c.in_ok-unfold-3.ensures.exprs

use Rattle.std.proofs.Common.{◌≡◌, []}
use Rattle.cedar_syntax.proofs.Copying.{at_end, copy_alone}
use Rattle.cedar_syntax.proofs.copy.expressions.copied.Goals as goal

pub returns : goal.returns
returns g c = copy_alone (c.copy.new.copies ≡ []) c.copy.result c.args.tree.now (c.copy.ensures [] (at_end c.loop-expr.order c.loop-expr.copies (g.T.Unfold.inside c.args.tree.now) c.in_default.ensures.0 c.loop-expr.invariant))

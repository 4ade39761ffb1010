use Rattle.cedar_syntax.proofs.Copying.{two_parts}
use Rattle.cedar_syntax.proofs.copy.expressions.Tuple2Holds.copy.Goals as goal

pub returns : goal.returns
returns g c rest e =
    let t = two_parts (g.A.Unfold.inside c.args.self.now.0) (g.T.Unfold.inside c.args.self.now.1) rest c.args.copies.now c.copy.new.copies c.copy-2.new.copies c.in_ok-op.ensures c.in_ok-operand.ensures e in
    ((λ i. (t.0 i, t.1 i)), t.2)

use Rattle.cedar_syntax.proofs.Weights.{one, unary_out}
use Rattle.cedar_syntax.proofs.dismantle.UnaryDismantle.dismantle.Goals as goal

pub returns : goal.returns
returns c = one _ _ c.dismantle.ensures (unary_out c.args.self)

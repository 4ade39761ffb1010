use Rattle.cedar_syntax.proofs.Weights.{mult_out, two}
use Rattle.cedar_syntax.proofs.dismantle.MultDismantle.dismantle.Goals as goal

pub returns : goal.returns
returns c = two _ _ _ c.dismantle-pending.ensures c.dismantle.ensures (mult_out c.args.self)

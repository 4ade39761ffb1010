use Rattle.cedar_syntax.proofs.Weights.{and_out, two}
use Rattle.cedar_syntax.proofs.dismantle.AndDismantle.dismantle.Goals as goal

pub returns : goal.returns
returns c = two _ _ _ c.dismantle-pending.ensures c.dismantle.ensures (and_out c.args.self)

use Rattle.cedar_syntax.proofs.Weights.{init_out, two}
use Rattle.cedar_syntax.proofs.dismantle.RecInitDismantle.dismantle.Goals as goal

pub returns : goal.returns
returns c = two _ _ _ c.dismantle-pending.ensures c.dismantle.ensures (init_out c.args.self)

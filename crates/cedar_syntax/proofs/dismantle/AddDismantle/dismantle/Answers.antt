use Rattle.cedar_syntax.proofs.Weights.{add_out, two}
use Rattle.cedar_syntax.proofs.dismantle.AddDismantle.dismantle.Goals as goal

pub returns : goal.returns
returns c = two _ _ _ c.dismantle-pending.ensures c.dismantle.ensures (add_out c.args.self)

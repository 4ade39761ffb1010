use Rattle.cedar_syntax.proofs.Weights.{or_out, two}
use Rattle.cedar_syntax.proofs.dismantle.OrDismantle.dismantle.Goals as goal

pub returns : goal.returns
returns c = two _ _ _ c.dismantle-pending.ensures c.dismantle.ensures (or_out c.args.self)

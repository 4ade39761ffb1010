use Rattle.cedar_syntax.proofs.Weights.{member_out, two}
use Rattle.cedar_syntax.proofs.dismantle.MemberDismantle.dismantle.Goals as goal

pub returns : goal.returns
returns c = two _ _ _ c.dismantle-pending.ensures c.dismantle.ensures (member_out c.args.self)

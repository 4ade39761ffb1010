use Rattle.cedar_policy_machine.proofs.machines.Leftmost.{one_leftmost}
use Rattle.cedar_text.proofs.text_to_cst.laws.leftmost_faults.Goals as goal

pub returns : goal.returns
returns c = record { one_leftmost = one_leftmost }

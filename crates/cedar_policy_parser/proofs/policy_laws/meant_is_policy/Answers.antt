use Rattle.cedar_policy_parser.proofs.complete.Sets.{policy_read}
use Rattle.cedar_policy_parser.proofs.policy_laws.meant_is_policy.Goals as goal

pub returns : goal.returns
returns c e src id ts policy h = let d = policy_read e src id h in (d.tree, d.parts, d.reads, d.gives, d.same)

use Rattle.cedar_policy_parser.proofs.meaning.OneSet.{one_policy_meaning}
use Rattle.cedar_policy_parser.proofs.policy_laws.one_policy.Goals as goal

pub returns : goal.returns
returns c = one_policy_meaning c.single_policies.ensures.rule.one_tree

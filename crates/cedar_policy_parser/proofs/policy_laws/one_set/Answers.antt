use Rattle.cedar_policy_parser.proofs.meaning.OneSet.{one_set_meaning}
use Rattle.cedar_policy_parser.proofs.policy_laws.one_set.Goals as goal

pub returns : goal.returns
returns c = one_set_meaning c.policies.ensures.rule.one_tree

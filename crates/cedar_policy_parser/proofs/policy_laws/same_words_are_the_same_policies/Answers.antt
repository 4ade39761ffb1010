use Rattle.cedar_policy_parser.proofs.meaning.LayingOut.{same_tree, same_meaning}
use Rattle.cedar_policy_parser.proofs.policy_laws.same_words_are_the_same_policies.Goals as goal

pub returns-clause-tree : goal.returns-clause-tree
returns-clause-tree c = same_tree c.policies.ensures.rule.one_tree

pub returns-clause-meaning : goal.returns-clause-meaning
returns-clause-meaning c = same_meaning

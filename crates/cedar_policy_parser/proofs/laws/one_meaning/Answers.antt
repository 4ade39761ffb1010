use Rattle.cedar_policy_parser.proofs.meaning.Meaning.{one_value}
use Rattle.cedar_policy_parser.proofs.laws.one_meaning.Goals as goal

pub returns : goal.returns
returns c = one_value c.expressions.ensures.one_tree

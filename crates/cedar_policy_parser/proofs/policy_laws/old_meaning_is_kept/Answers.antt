use Rattle.cedar_policy_parser.proofs.meaning.RaisedLimit.{raised}
use Rattle.cedar_policy_parser.proofs.policy_laws.old_meaning_is_kept.Goals as goal

pub returns : goal.returns
returns c = raised

use Rattle.cedar_policy_parser.proofs.meaning.Spellings.{text_given}
use Rattle.cedar_policy_parser.proofs.laws.identifier_is_any.Goals as goal

pub returns : goal.returns
returns c = text_given

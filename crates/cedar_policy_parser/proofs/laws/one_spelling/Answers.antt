use Rattle.cedar_policy_parser.proofs.meaning.Spellings.{named, spelled}
use Rattle.cedar_policy_parser.proofs.laws.one_spelling.Goals as goal

pub returns : goal.returns
returns c text = (named text, spelled text)

use Rattle.cedar_policy_parser.proofs.meaning.VariedTexts.{same_words_mean}
use Rattle.cedar_policy_parser.proofs.policy_laws.same_words_mean_the_same.Goals as goal

pub returns : goal.returns
returns c = same_words_mean

use Rattle.cedar_lexer.proofs.Spaced.{words_are_cut}
use Rattle.cedar_lexer.proofs.laws.spaced_words_are_cut.Goals as goal

pub returns : goal.returns
returns c = words_are_cut

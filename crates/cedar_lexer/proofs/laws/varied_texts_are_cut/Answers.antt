use Rattle.cedar_lexer.proofs.Padded.{padded_cut, enclosed_cut}
use Rattle.cedar_lexer.proofs.laws.varied_texts_are_cut.Goals as goal

pub returns-clause-padding : goal.returns-clause-padding
returns-clause-padding c = padded_cut

pub returns-clause-parentheses : goal.returns-clause-parentheses
returns-clause-parentheses c = enclosed_cut

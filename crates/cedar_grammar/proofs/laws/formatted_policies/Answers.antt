use Rattle.cedar_grammar.proofs.again.Lines.{formatted_again, formatted_stays}
use Rattle.cedar_grammar.proofs.laws.formatted_policies.Goals as goal

pub returns-clause-again : goal.returns-clause-again
returns-clause-again c = formatted_again

pub returns-clause-stays : goal.returns-clause-stays
returns-clause-stays c = formatted_stays

-- The law is a lemma.
use Rattle.cedar_lexer.proofs.Runs.{next_cuts, next_stops}
use Rattle.cedar_lexer.proofs.laws.next_token_of_each_cut.Goals as goal

pub returns-clause-cuts : goal.returns-clause-cuts
returns-clause-cuts c = next_cuts

pub returns-clause-stops : goal.returns-clause-stops
returns-clause-stops c = next_stops

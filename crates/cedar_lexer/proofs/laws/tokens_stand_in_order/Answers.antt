-- The law is a lemma.
use Rattle.cedar_lexer.proofs.Runs.{stand_in_order, next_range}
use Rattle.cedar_lexer.proofs.laws.tokens_stand_in_order.Goals as goal

pub returns-clause-whole : goal.returns-clause-whole
returns-clause-whole c = stand_in_order

pub returns-clause-next : goal.returns-clause-next
returns-clause-next c = next_range

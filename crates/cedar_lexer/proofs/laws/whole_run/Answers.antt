-- The law is a lemma.
use Rattle.cedar_lexer.proofs.Runs as runs
use Rattle.cedar_lexer.proofs.laws.whole_run.Goals as goal

pub returns : goal.returns
returns c = runs.whole_run

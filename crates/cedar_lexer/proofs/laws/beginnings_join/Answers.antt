-- The law is a lemma.
use Rattle.cedar_lexer.proofs.Cuts.{laid_on}
use Rattle.cedar_lexer.proofs.laws.beginnings_join.Goals as goal

pub returns : goal.returns
returns c = λ source ts us i j k l m. laid_on l m

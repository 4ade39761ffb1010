use Rattle.cedar_syntax.proofs.Printing.{prints-then}
use Rattle.cedar_syntax.proofs.print.tokens.Tuple2Tokens.write_tokens.Goals as goal

pub returns : goal.returns
returns g c = prints-then g.W.Write.write_str_gives _ _ _ _ _ _ _ _ c.in_ok-fresh.ensures c.write_tokens-2.ensures

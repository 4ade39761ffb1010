-- The first byte that ends a line, if there is one.
use Rattle.cedar_lexer.proofs.Lines.{line_found, no_line_end}
use Rattle.cedar_lexer.proofs.lexer.line_len.Goals as goal

pub returns-in-Some-clause-len : goal.returns-in-Some-clause-len
returns-in-Some-clause-len c = line_found c.args.text.now c.in-Some.len c.in-Some.ensures.0 c.in-Some.ensures.1

pub returns-in-None-clause-len : goal.returns-in-None-clause-len
returns-in-None-clause-len c = no_line_end c.args.text.now c.in-None.ensures

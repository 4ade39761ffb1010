use Rattle.cedar_grammar.specs.machines.Machine.{machine_of}
use Rattle.cedar_grammar.proofs.machines.Driving.{Progress, bytes_left}
use Rattle.cedar_grammar.proofs.reading.driver.read.Given as goal

-- some tokens are read, and the lexer stands behind them
abbrev pub invariant-loop-token : goal.invariant-loop-token
invariant-loop-token g l = Progress (machine_of l.source g.E.PushParser.reader) l.source l.state l.end l.lexer

abbrev pub decreases-loop-token : goal.decreases-loop-token
decreases-loop-token g l = bytes_left l.lexer

use Rattle.cedar_grammar.specs.machines.Machine.{machine_of, allowed_by}
use Rattle.cedar_grammar.specs.machines.Mending.{recovers_of, stage_of}
use Rattle.cedar_grammar.proofs.machines.Driving.{bytes_left}
use Rattle.cedar_grammar.proofs.machines.Mending.{Met}
use Rattle.cedar_grammar.proofs.reading.mending.read.Given as goal

-- some tokens are read or skipped, and the lexer stands behind them
abbrev pub invariant-loop-token : goal.invariant-loop-token
invariant-loop-token g l = Met (machine_of l.source g.E.PushParser.reader) (allowed_by g.E.PushParser.reader) (recovers_of (allowed_by g.E.PushParser.reader) g.E.Recovering.left g.E.Recovering.closed g.E.Recovering.over g.F.FromRawFault.told l.source) l.source (stage_of l.run) l.lexer

abbrev pub decreases-loop-token : goal.decreases-loop-token
decreases-loop-token g l = bytes_left l.lexer

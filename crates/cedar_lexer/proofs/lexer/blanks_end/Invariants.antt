-- Blanks lie from the start to here.
use Rattle.std.proofs.Common.{◌-◌, length}
use Rattle.cedar_lexer.proofs.Steps.{Passed}
use Rattle.cedar_lexer.proofs.lexer.blanks_end.Given as goal

abbrev pub invariant-loop-bytes : goal.invariant-loop-bytes
invariant-loop-bytes l = Passed l.text l.fn.from l.at

abbrev pub decreases-loop-bytes : goal.decreases-loop-bytes
decreases-loop-bytes l = length l.text - l.at

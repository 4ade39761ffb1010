-- Skips lie from the start to here, and each step passes one more.
use Rattle.std.proofs.Common.{◌-◌, length}
use Rattle.cedar_lexer.proofs.Steps.{Passed}
use Rattle.cedar_lexer.proofs.lexer.any_skips_end.Given as goal

abbrev pub invariant-loop-from : goal.invariant-loop-from
invariant-loop-from l = Passed l.text l.fn.from l.at

abbrev pub decreases-loop-from : goal.decreases-loop-from
decreases-loop-from l = length l.text - l.at

use Rattle.std.proofs.Common.{◌≡◌, length}
use Rattle.cedar_syntax.specs.printing.Pieces.{exprs_in}
use Rattle.cedar_syntax.proofs.copy.expressions.next_expr.Given as goal

abbrev pub invariant-loop-piece : goal.invariant-loop-piece
invariant-loop-piece l = exprs_in l.initial.pieces ≡ exprs_in l.pieces

abbrev pub decreases-loop-piece : goal.decreases-loop-piece
decreases-loop-piece l = length l.pieces

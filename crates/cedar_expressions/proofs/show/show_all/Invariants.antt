-- What is written, and what is still to be shown, are all of the expression.
use Rattle.std.proofs.Common.{◌≡◌, ℕ, List, ◌++◌}
use Rattle.std.specs.Fmt.{HasWritten, IsPlainFormatter}
use Rattle.cedar_expressions.specs.Pieces.{pieces_text, pieces_weight}
use Rattle.cedar_expressions.specs.Shown.{expr_text}
use Rattle.cedar_expressions.proofs.show.show_all.Given as goal

abbrev pub invariant-loop-piece : goal.invariant-loop-piece
invariant-loop-piece g l =
    (done : List ℕ) × (IsPlainFormatter l.fn.f → HasWritten g.W.Write.write_str_gives l.fn.f done l.f)
    × (done ++ pieces_text l.rest ≡ expr_text l.fn.expr)

abbrev pub decreases-loop-piece : goal.decreases-loop-piece
decreases-loop-piece g l = pieces_weight l.rest

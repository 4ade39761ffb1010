use Rattle.std.proofs.Common.{◌≡◌, ◌++◌, length, Ok}
use Rattle.cedar_syntax.specs.printing.Printed.{Texts}
use Rattle.cedar_syntax.specs.printing.Printing.{Prints}
use Rattle.cedar_syntax.specs.printing.Pieces.{pieces_texts, exprs_in}
use Rattle.cedar_syntax.proofs.print.unfolded.write_leaves.Given as goal

abbrev pub invariant-loop-piece : goal.invariant-loop-piece
invariant-loop-piece g l =
    (first : Texts) × Prints g.W.Write.write_str_gives l.fn.f l.fn.fresh first (Ok l.fresh) l.f
    × (pieces_texts l.initial.rest ≡ first ++ pieces_texts l.rest)
    × (exprs_in l.initial.rest ≡ exprs_in l.rest)

abbrev pub decreases-loop-piece : goal.decreases-loop-piece
decreases-loop-piece g l = length l.rest

use Rattle.std.proofs.Common.{◌≡◌, ◌++◌, Ok}
use Rattle.cedar_syntax.specs.printing.Printed.{Texts, printed}
use Rattle.cedar_syntax.specs.printing.Printing.{Prints}
use Rattle.cedar_syntax.specs.trees.Unplaced.{data_tree}
use Rattle.cedar_syntax.specs.printing.Pieces.{pieces_texts, exprs_in}
use Rattle.cedar_syntax.proofs.InsideWeights.{exprs_weight}
use Rattle.cedar_syntax.proofs.print.unfolded.write_unfolded.Given as goal

abbrev pub invariant-exprs : goal.invariant-exprs
invariant-exprs g l =
    (before : Texts) × Prints g.W.Write.write_str_gives l.fn.f l.fn.fresh before (Ok l.fresh) l.f
    × (printed (data_tree l.tree) ≡ before ++ pieces_texts l.rest)

abbrev pub decreases-exprs : goal.decreases-exprs
decreases-exprs g l = exprs_weight (exprs_in l.rest)

use Rattle.std.proofs.Common.{◌++◌}
use Rattle.cedar_syntax.specs.printing.Pieces.{leaf_texts}
use Rattle.cedar_syntax.proofs.Printing.{after}
use Rattle.cedar_syntax.proofs.Unfolding.{leaf_skipped, leaf_written}
use Rattle.cedar_syntax.proofs.print.unfolded.write_leaves.Goals as goal

pub loop-piece-preserved : goal.loop-piece-preserved
loop-piece-preserved g c =
    let took = g.W.Write.write_str_gives in
    let now = c.loop-piece.invariant in
    let piece = c.in-Some.piece in (
      now.0 ++ leaf_texts piece,
      after took now.1 c.in_ok-fresh.ensures,
      leaf_written piece now.0 c.pop.new.self now.2 c.in-Some.ensures c.expr.ensures.texts c.in_default-expr.is,
      leaf_skipped piece c.pop.new.self now.3 c.in-Some.ensures c.expr.ensures.exprs c.in_default-expr.is,
    )

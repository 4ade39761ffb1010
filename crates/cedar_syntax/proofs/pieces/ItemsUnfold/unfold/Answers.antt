use Rattle.cedar_syntax.specs.printing.Printing.{in_row}
use Rattle.cedar_syntax.specs.printing.Pieces.{pieces_texts, exprs_in}
use Rattle.cedar_syntax.specs.trees.Inside.{all_inside}
use Rattle.cedar_syntax.proofs.Unfolding.{inside-last, row-last, taken}
use Rattle.cedar_syntax.proofs.pieces.ItemsUnfold.unfold.Goals as goal

pub loop-item-preserved : goal.loop-item-preserved
loop-item-preserved g c =
    let tokens = g.T.Unfold.tokens in
    let inside = g.T.Unfold.inside in
    let others = c.next.new.self.iter.rest.now in (
      taken tokens (in_row tokens) (row-last tokens) others c.in-Some.item.now (pieces_texts c.loop-item.rest) c.in-Some.ensures.steps c.in_ok-unfold.ensures.texts c.loop-item.invariant.0,
      taken inside (all_inside inside) (inside-last inside) others c.in-Some.item.now (exprs_in c.loop-item.rest) c.in-Some.ensures.steps c.in_ok-unfold.ensures.exprs c.loop-item.invariant.1,
    )

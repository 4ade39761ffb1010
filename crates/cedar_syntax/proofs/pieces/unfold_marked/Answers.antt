use Rattle.std.proofs.Common.{◌∷◌, [], ◌++◌, ap, ◌∙◌}
use Rattle.cedar_syntax.specs.printing.Printing.{texts_behind_mark}
use Rattle.cedar_syntax.specs.printing.Pieces.{pieces_texts, exprs_in}
use Rattle.cedar_syntax.specs.trees.Inside.{all_inside}
use Rattle.cedar_syntax.proofs.Printing.{marked-push}
use Rattle.cedar_syntax.proofs.Unfolding.{inside-last, taken}
use Rattle.cedar_syntax.proofs.pieces.unfold_marked.Goals as goal

pub loop-item-preserved : goal.loop-item-preserved
loop-item-preserved g c =
    let tokens = g.T.Unfold.tokens in
    let inside = g.T.Unfold.inside in
    let mark = c.args.mark.now in
    let others = c.next.new.self.iter.rest.now in (
      taken (λ x. (mark ∷ []) ++ tokens x) (texts_behind_mark mark tokens) (marked-push tokens mark) others c.in-Some.item.now (pieces_texts c.loop-item.rest) c.in-Some.ensures.steps (ap pieces_texts c.in_ok-push.ensures.ok ∙ ap (λ l. mark ∷ l) c.in_ok-unfold.ensures.texts) c.loop-item.invariant.0,
      taken inside (all_inside inside) (inside-last inside) others c.in-Some.item.now (exprs_in c.loop-item.rest) c.in-Some.ensures.steps (ap exprs_in c.in_ok-push.ensures.ok ∙ c.in_ok-unfold.ensures.exprs) c.loop-item.invariant.1,
    )

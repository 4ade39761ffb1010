use Rattle.std.proofs.Common.{◌≡◌, ◌+◌, ◌++◌, ◌∷◌, [], ap, sym, ◌∙◌, append_assoc, arith, drop, drop-cons, get_or, suc, take}
use Rattle.std.proofs.lemmas.List.{take_more}
use Rattle.cedar_syntax.specs.trees.Inside.{all_inside}
use Rattle.cedar_syntax.proofs.copy.expressions.ItemsHolds.copy.Goals as goal

pub loop-item-preserved : goal.loop-item-preserved
loop-item-preserved g c rest e =
    let inside = g.T.Unfold.inside in
    let xs = c.as_slice-item-items.result.now in
    let k = c.loop-item.item-index in
    let x = c.item-item.result in
    let behind = drop (k + 1) xs in
    let so = c.loop-item.invariant rest e in
    let next : suc k ≡ k + 1 = omega arith in
    let first = drop-cons xs k x c.loop-item-test.true ∙ ap (λ n. get_or xs k x ∷ drop n xs) next ∙ ap (λ y. y ∷ behind) (sym c.item-item.is) in
    let more = c.in_ok-copy.ensures (all_inside inside behind ++ rest) (so.1 ∙ ap (λ l. all_inside inside l ++ rest) first ∙ append_assoc (inside x) (all_inside inside behind) rest) in
    (c.push_reserved.ensures.items ∙ (λ i. (c.in_ok-reserve.ensures.items ∙ so.0) i ++ more.0 i ∷ []) ∙ sym (take_more xs k x c.loop-item-test.true ∙ ap (λ y. take k xs ++ y ∷ []) (sym c.item-item.is)), more.1)

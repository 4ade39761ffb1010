use Rattle.std.proofs.Common.{◌≡◌, ◌++◌}
use Rattle.cedar_syntax.specs.printing.Pieces.{pieces_texts, exprs_in}
use Rattle.cedar_syntax.specs.printing.Printing.{in_row}
use Rattle.cedar_syntax.specs.trees.Inside.{all_inside}
use Rattle.cedar_syntax.proofs.pieces.ItemsUnfold.unfold.Given as goal

abbrev pub invariant-loop-item : goal.invariant-loop-item
invariant-loop-item g l =
    (in_row g.T.Unfold.tokens l.item-iterator.iter.rest.now ++ pieces_texts l.rest
    ≡ in_row g.T.Unfold.tokens l.self ++ pieces_texts l.initial.rest)
    × (all_inside g.T.Unfold.inside l.item-iterator.iter.rest.now ++ exprs_in l.rest
    ≡ all_inside g.T.Unfold.inside l.self ++ exprs_in l.initial.rest)

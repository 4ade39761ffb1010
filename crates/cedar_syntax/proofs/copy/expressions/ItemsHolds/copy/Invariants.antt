use Rattle.std.proofs.Common.{◌≡◌, ◌++◌, List, take, drop}
use Rattle.cedar_syntax.specs.declared.cst.Expr.{Expr}
use Rattle.cedar_syntax.specs.trees.Inside.{all_inside}
use Rattle.cedar_syntax.proofs.copy.expressions.ItemsHolds.copy.Given as goal

abbrev pub invariant-loop-item : goal.invariant-loop-item
invariant-loop-item g l = (rest : List Expr) → l.initial.copies ≡ all_inside g.T.Unfold.inside l.item-items ++ rest
    → (l.items.items ≡ take l.item-index l.item-items)
    × (l.copies ≡ all_inside g.T.Unfold.inside (drop l.item-index l.item-items) ++ rest)

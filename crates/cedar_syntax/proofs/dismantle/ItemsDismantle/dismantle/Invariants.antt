use Rattle.std.proofs.Common.{◌≡◌, ◌+◌}
use Rattle.std.specs.List.{sum_by}
use Rattle.cedar_syntax.specs.trees.Weight.{waiting_weight}
use Rattle.cedar_syntax.proofs.dismantle.ItemsDismantle.dismantle.Given as goal

abbrev pub invariant-loop-item : goal.invariant-loop-item
invariant-loop-item g l =
    waiting_weight l.pending + sum_by g.T.Dismantle.weight l.items.items
    ≡ sum_by g.T.Dismantle.weight l.initial.items.items + waiting_weight l.initial.pending

abbrev pub decreases-loop-item : goal.decreases-loop-item
decreases-loop-item g l = goal.left-loop-item g l

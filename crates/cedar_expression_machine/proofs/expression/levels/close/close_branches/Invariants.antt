use Rattle.std.proofs.Common.{◌≡◌, length}
use Rattle.cedar_expression_machine.specs.machines.Closing.{with_branches}
use Rattle.cedar_expression_machine.proofs.expression.levels.close.close_branches.Given as goal

abbrev pub invariant-loop-branch : goal.invariant-loop-branch
invariant-loop-branch l = with_branches l.builder.source.now l.branches l.item ≡ with_branches l.builder.source.now l.initial.branches l.initial.item

abbrev pub decreases-loop-branch : goal.decreases-loop-branch
decreases-loop-branch l = length l.branches

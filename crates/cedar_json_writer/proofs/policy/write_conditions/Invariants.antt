-- The conditions so far were written, and those that are left stand behind them.
use Rattle.cedar_expressions.specs.Meaning.{expr_meaning}
use Rattle.cedar_json_writer.specs.machines.Pending.{weight}
use Rattle.cedar_json_writer.proofs.Conditions.{Parted}
use Rattle.cedar_json_writer.proofs.policy.write_conditions.Given as goal

abbrev pub invariant-loop-both : goal.invariant-loop-both
invariant-loop-both l = Parted l.fn.out l.out l.fn.condition l.left

abbrev pub decreases-loop-both : goal.decreases-loop-both
decreases-loop-both l = weight (expr_meaning l.left)

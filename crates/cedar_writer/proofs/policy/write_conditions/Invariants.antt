-- The conditions so far were written, and those that are left stand behind them.
use Rattle.cedar_expressions.specs.Meaning.{expr_meaning}
use Rattle.cedar_conversion.specs.strict.Table.{table_of}
use Rattle.cedar_syntax.specs.tokens.Signs.{sign_limit}
use Rattle.cedar_writer.specs.machines.Pending.{load}
use Rattle.cedar_writer.proofs.PolicyParts.{Conditioned}
use Rattle.cedar_writer.proofs.policy.write_conditions.Given as goal

abbrev pub invariant-loop-both : goal.invariant-loop-both
invariant-loop-both l = Conditioned (table_of l.styles) sign_limit l.fn.out l.out l.fn.condition l.left

abbrev pub decreases-loop-both : goal.decreases-loop-both
decreases-loop-both l = load (expr_meaning l.left)

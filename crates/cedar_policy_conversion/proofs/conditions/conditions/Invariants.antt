use Rattle.std.proofs.Common.{take}
use Rattle.cedar_policy_conversion.specs.Conditions.{conditions_outcome}
use Rattle.cedar_conversion.specs.outcome.Seen.{Gives}
use Rattle.cedar_conversion.specs.strict.Table.{table_of}
use Rattle.cedar_policy_conversion.proofs.conditions.conditions.Given as goal
use Rattle.cedar_policy_conversion.specs.machines.PolicyViews.{meanings}

abbrev pub invariant-loop-node : goal.invariant-loop-node
invariant-loop-node l = Gives meanings l.all (conditions_outcome (table_of l.styles) (take l.node-index l.nodes))

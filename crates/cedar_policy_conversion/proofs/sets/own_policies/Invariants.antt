use Rattle.std.proofs.Common.{length, take}
use Rattle.cedar_conversion.specs.outcome.Seen.{Gives}
use Rattle.cedar_conversion.specs.strict.Table.{table_of}
use Rattle.cedar_policy_conversion.specs.machines.Filled.{seen_policies, set_view}
use Rattle.cedar_policy_conversion.proofs.FreeNames.{IsFreeFrom}
use Rattle.cedar_policy_conversion.proofs.sets.own_policies.Given as goal

abbrev pub invariant-loop-count : goal.invariant-loop-count
invariant-loop-count l =
    IsFreeFrom l.set (length l.yielded) × Gives (set_view l.set) l.all (seen_policies (table_of l.styles) (take (length l.yielded) l.fn.nodes.items))

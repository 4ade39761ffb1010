use Rattle.cedar_conversion.specs.strict.Table.{table_of}
use Rattle.cedar_policy_conversion.proofs.NumberedSets.{AreKept}
use Rattle.cedar_policy_conversion.proofs.sets.policies.Given as goal

abbrev pub invariant-loop-item : goal.invariant-loop-item
invariant-loop-item l = AreKept (table_of l.styles) l.nodes l.item-iterator l.set l.all

use Rattle.std.proofs.Common.{map, take}
use Rattle.cedar_policy_conversion.specs.Scope.{extra_element_fault}
use Rattle.cedar_conversion.specs.outcome.Seen.{Gives}
use Rattle.cedar_conversion.specs.machines.Views.{empty_view}
use Rattle.cedar_conversion.specs.outcome.Outcome.{faults_outcome}
use Rattle.cedar_policy_conversion.proofs.scope.refuse_extra.Given as goal

abbrev pub invariant-loop-node : goal.invariant-loop-node
invariant-loop-node l = Gives empty_view l.all (faults_outcome (map (λ n. extra_element_fault n.loc n.node) (take l.node-index l.others)))

use Rattle.std.proofs.Common.{◌≡◌}
use Rattle.cedar_policy_store.specs.Actions.{but_actions}
use Rattle.cedar_policy_store.proofs.constraints.without_actions.Given as goal

abbrev pub invariant-loop-entity : goal.invariant-loop-entity
invariant-loop-entity l = l.others.items ≡ but_actions l.yielded

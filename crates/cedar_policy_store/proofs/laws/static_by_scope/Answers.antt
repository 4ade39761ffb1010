use Rattle.cedar_policy_store.proofs.ScopeSlots.{static_by_scope}
use Rattle.cedar_policy_store.proofs.laws.static_by_scope.Goals as goal

pub returns : goal.returns
returns c = static_by_scope

use Rattle.cedar_policy_store.proofs.EqualPolicies.{sets_are}
use Rattle.cedar_policy_store.proofs.laws.equal_sets.Goals as goal

pub returns : goal.returns
returns c = sets_are

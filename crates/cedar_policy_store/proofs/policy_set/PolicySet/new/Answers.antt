use Rattle.cedar_policy_store.proofs.MapsByText.{map_in-empty}
use Rattle.cedar_policy_store.proofs.policy_set.PolicySet.new.Goals as goal

pub returns : goal.returns
returns c = λ i. record { policies = map_in-empty c.new.result c.new.ensures.empty i; templates = map_in-empty c.new-2.result c.new-2.ensures.empty i }

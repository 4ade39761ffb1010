use Rattle.cedar_policy_store.proofs.EqualPolicies.{templates_are}
use Rattle.cedar_policy_store.proofs.laws.equal_templates.Goals as goal

pub returns : goal.returns
returns c = templates_are

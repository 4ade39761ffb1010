use Rattle.cedar_json.proofs.PolicyRoundTrip.{policy_read}
use Rattle.cedar_json.proofs.laws.written_policies_are_read.Goals as goal

pub returns : goal.returns
returns c = policy_read

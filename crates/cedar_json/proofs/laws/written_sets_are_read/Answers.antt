use Rattle.cedar_json.proofs.PolicyRoundTrip.{set_read}
use Rattle.cedar_json.proofs.laws.written_sets_are_read.Goals as goal

pub returns : goal.returns
returns c = set_read

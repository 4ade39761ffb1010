use Rattle.cedar_json.proofs.RoundTrip.{round}
use Rattle.cedar_json.proofs.laws.written_values_are_read.Goals as goal

pub returns : goal.returns
returns c = round

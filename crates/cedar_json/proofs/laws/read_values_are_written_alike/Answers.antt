use Rattle.cedar_json.proofs.ReadAgain.{same_form, twice}
use Rattle.cedar_json.proofs.laws.read_values_are_written_alike.Goals as goal

pub returns : goal.returns
returns c = record { same = same_form; twice = twice }

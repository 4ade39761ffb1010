use Rattle.cedar_policy_parser.proofs.independent.Independent as independent
use Rattle.cedar_policy_parser.proofs.laws.values_see_no_place.Goals as goal

pub returns : goal.returns
returns c = independent.values_see_no_place

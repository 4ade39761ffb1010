use Rattle.cedar_policy_parser.proofs.independent.IndependentSets.{no_place_seen}
use Rattle.cedar_policy_parser.proofs.policy_laws.sets_see_no_place.Goals as goal

pub returns : goal.returns
returns c = no_place_seen

use Rattle.cedar_policy_parser.proofs.sound.Sets.{policy_meant}
use Rattle.cedar_policy_parser.proofs.policy_laws.policy_is_meant.Goals as goal

pub returns : goal.returns
returns c e src id ts x parts r h = policy_meant e id parts r h

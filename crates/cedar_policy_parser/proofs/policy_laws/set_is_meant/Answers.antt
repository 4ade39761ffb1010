use Rattle.cedar_policy_parser.proofs.ParsedSets.{text_meant}
use Rattle.cedar_policy_parser.proofs.sound.Sets.{set_meant}
use Rattle.cedar_policy_parser.proofs.policy_laws.set_is_meant.Goals as goal

pub returns-clause-tokens : goal.returns-clause-tokens
returns-clause-tokens c e src ts x set r h = set_meant e set r h

pub returns-clause-text : goal.returns-clause-text
returns-clause-text c = text_meant

use Rattle.cedar_policy_parser.proofs.meaning.StaticMeaning.{static_meant, static_read}
use Rattle.cedar_policy_parser.proofs.policy_laws.static_policy_is_meant.Goals as goal

pub returns-clause-converted : goal.returns-clause-converted
returns-clause-converted c = static_meant

pub returns-clause-meant : goal.returns-clause-meant
returns-clause-meant c = static_read

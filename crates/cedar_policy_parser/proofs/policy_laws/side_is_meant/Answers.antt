use Rattle.cedar_policy_parser.proofs.meaning.StaticMeaning.{left_meant, left_read, right_meant, right_read}
use Rattle.cedar_policy_parser.proofs.policy_laws.side_is_meant.Goals as goal

pub returns-clause-static_policies : goal.returns-clause-static_policies
returns-clause-static_policies c = left_meant

pub returns-clause-templates : goal.returns-clause-templates
returns-clause-templates c = right_meant

pub returns-clause-meant_static : goal.returns-clause-meant_static
returns-clause-meant_static c = left_read

pub returns-clause-meant_template : goal.returns-clause-meant_template
returns-clause-meant_template c = right_read

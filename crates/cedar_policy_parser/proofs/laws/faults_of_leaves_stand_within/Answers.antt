use Rattle.cedar_policy_parser.proofs.standing.StandingAlone.{primary_faults, entity_faults, ident_faults}
use Rattle.cedar_policy_parser.proofs.laws.faults_of_leaves_stand_within.Goals as goal

pub returns-clause-strings : goal.returns-clause-strings
returns-clause-strings c = primary_faults

pub returns-clause-entities : goal.returns-clause-entities
returns-clause-entities c = entity_faults

pub returns-clause-identifiers : goal.returns-clause-identifiers
returns-clause-identifiers c = ident_faults

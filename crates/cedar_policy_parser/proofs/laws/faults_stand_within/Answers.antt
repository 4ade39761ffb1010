use Rattle.cedar_policy_parser.proofs.standing.StandingTexts.{expr_faults, each_expr_faults}
use Rattle.cedar_policy_parser.proofs.laws.faults_stand_within.Goals as goal

pub returns-clause-whole : goal.returns-clause-whole
returns-clause-whole c = expr_faults

pub returns-clause-each : goal.returns-clause-each
returns-clause-each c = each_expr_faults

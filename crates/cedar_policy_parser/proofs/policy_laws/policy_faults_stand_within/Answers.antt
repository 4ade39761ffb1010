use Rattle.cedar_policy_parser.proofs.standing.StandingTexts.{policy_faults, set_faults, member_faults, part_faults, member_part_faults}
use Rattle.cedar_policy_parser.proofs.policy_laws.policy_faults_stand_within.Goals as goal

pub returns-clause-policies : goal.returns-clause-policies
returns-clause-policies c = policy_faults

pub returns-clause-sets : goal.returns-clause-sets
returns-clause-sets c = set_faults

pub returns-clause-members : goal.returns-clause-members
returns-clause-members c = member_faults

pub returns-clause-parts : goal.returns-clause-parts
returns-clause-parts c = part_faults

pub returns-clause-member_parts : goal.returns-clause-member_parts
returns-clause-member_parts c = member_part_faults

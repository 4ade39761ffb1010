use Rattle.cedar_grammar.proofs.again.Law as law
use Rattle.cedar_grammar.proofs.laws.print_law.Goals as goal

pub returns-clause-expressions : goal.returns-clause-expressions
returns-clause-expressions c = law.expressions

pub returns-clause-primaries : goal.returns-clause-primaries
returns-clause-primaries c = law.primaries

pub returns-clause-entity_literals : goal.returns-clause-entity_literals
returns-clause-entity_literals c = law.entity_literals

pub returns-clause-names : goal.returns-clause-names
returns-clause-names c = law.names

pub returns-clause-identifiers : goal.returns-clause-identifiers
returns-clause-identifiers c = law.identifiers

pub returns-clause-single_policies : goal.returns-clause-single_policies
returns-clause-single_policies c = law.single_policies

pub returns-clause-policies : goal.returns-clause-policies
returns-clause-policies c = law.policies

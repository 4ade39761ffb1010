use Rattle.cedar_grammar.proofs.again.SameWords.{any_same, name_same, ref_same}
use Rattle.cedar_grammar.proofs.again.SameExpressions.{expr_same, primary_same}
use Rattle.cedar_grammar.proofs.again.SamePolicies.{policy_same, policies_same}
use Rattle.cedar_grammar.proofs.laws.same_words.Goals as goal

pub returns-clause-entity_literals : goal.returns-clause-entity_literals
returns-clause-entity_literals c = λ source text ts us x r e. ref_same r text us e

pub returns-clause-names : goal.returns-clause-names
returns-clause-names c = λ source text ts us x r e. name_same r text us e

pub returns-clause-identifiers : goal.returns-clause-identifiers
returns-clause-identifiers c = λ source text ts us x r e. any_same r text us e

pub returns-clause-expressions : goal.returns-clause-expressions
returns-clause-expressions c = λ source text ts us x r e. expr_same r text us e

pub returns-clause-primaries : goal.returns-clause-primaries
returns-clause-primaries c = λ source text ts us x r e. primary_same r text us e

pub returns-clause-single_policies : goal.returns-clause-single_policies
returns-clause-single_policies c = λ source text ts us x r e. policy_same source ts x r text us e

pub returns-clause-policies : goal.returns-clause-policies
returns-clause-policies c = λ source text ts us x r e. policies_same r text us e

use Rattle.cedar_grammar.proofs.PolicyPlaces.{policies_places_lie, policy_places_lie}
use Rattle.cedar_text.proofs.text_to_cst.laws.policies_stand_in_texts.Goals as goal

pub returns-clause-policies : goal.returns-clause-policies
returns-clause-policies c = policies_places_lie

pub returns-clause-single_policies : goal.returns-clause-single_policies
returns-clause-single_policies c = policy_places_lie

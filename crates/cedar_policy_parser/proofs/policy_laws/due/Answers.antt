use Rattle.cedar_policy_parser.proofs.PolicyRefusals as told
use Rattle.cedar_policy_parser.proofs.policy_laws.due.Goals as goal

pub returns-clause-effect : goal.returns-clause-effect
returns-clause-effect c = told.effect_due

pub returns-clause-missing : goal.returns-clause-missing
returns-clause-missing c = told.missing_due

pub returns-clause-extra : goal.returns-clause-extra
returns-clause-extra c = told.extra_due

pub returns-clause-member_effect : goal.returns-clause-member_effect
returns-clause-member_effect c = told.member_effect_due

pub returns-clause-member_missing : goal.returns-clause-member_missing
returns-clause-member_missing c = told.member_missing_due

pub returns-clause-member_extra : goal.returns-clause-member_extra
returns-clause-member_extra c = told.member_extra_due

pub returns-clause-policy_names : goal.returns-clause-policy_names
returns-clause-policy_names c = told.policy_names

pub returns-clause-static_names : goal.returns-clause-static_names
returns-clause-static_names c = told.static_names

pub returns-clause-either_names : goal.returns-clause-either_names
returns-clause-either_names c = told.either_names

pub returns-clause-set_names : goal.returns-clause-set_names
returns-clause-set_names c = told.set_names

pub returns-clause-policy_refused : goal.returns-clause-policy_refused
returns-clause-policy_refused c = told.policy_refused

pub returns-clause-set_refused : goal.returns-clause-set_refused
returns-clause-set_refused c = told.set_refused

pub returns-clause-other_word : goal.returns-clause-other_word
returns-clause-other_word c = told.other_word

pub returns-clause-no_clause : goal.returns-clause-no_clause
returns-clause-no_clause c = told.no_clause

pub returns-clause-slots : goal.returns-clause-slots
returns-clause-slots c = told.clause_slots

pub returns-clause-effect_refused : goal.returns-clause-effect_refused
returns-clause-effect_refused c = told.effect_refused

pub returns-clause-annotation_refused : goal.returns-clause-annotation_refused
returns-clause-annotation_refused c = told.annotation_refused

pub returns-clause-scope_refused : goal.returns-clause-scope_refused
returns-clause-scope_refused c = told.scope_refused

pub returns-clause-condition_refused : goal.returns-clause-condition_refused
returns-clause-condition_refused c = told.condition_refused

pub returns-clause-value_names : goal.returns-clause-value_names
returns-clause-value_names c = told.value_names

pub returns-clause-effect_names : goal.returns-clause-effect_names
returns-clause-effect_names c = told.effect_names

pub returns-clause-annotation_names : goal.returns-clause-annotation_names
returns-clause-annotation_names c = told.annotation_names

pub returns-clause-scope_names : goal.returns-clause-scope_names
returns-clause-scope_names c = told.scope_names

pub returns-clause-condition_names : goal.returns-clause-condition_names
returns-clause-condition_names c = told.condition_names

pub returns-clause-string_names : goal.returns-clause-string_names
returns-clause-string_names c = told.string_names

pub returns-clause-entity_names : goal.returns-clause-entity_names
returns-clause-entity_names c = told.entity_names

pub returns-clause-identifier_names : goal.returns-clause-identifier_names
returns-clause-identifier_names c = told.identifier_names

pub returns-clause-word_names : goal.returns-clause-word_names
returns-clause-word_names c = told.word_names

pub returns-clause-single_names : goal.returns-clause-single_names
returns-clause-single_names c = told.single_names

pub returns-clause-reference_names : goal.returns-clause-reference_names
returns-clause-reference_names c = told.reference_names

pub returns-clause-multiple_names : goal.returns-clause-multiple_names
returns-clause-multiple_names c = told.multiple_names

pub returns-clause-annotations_names : goal.returns-clause-annotations_names
returns-clause-annotations_names c = told.annotations_names

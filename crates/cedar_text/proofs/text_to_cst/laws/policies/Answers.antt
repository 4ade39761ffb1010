use Rattle.cedar_grammar.specs.faults.MendedFaults.{PoliciesBefore}
use Rattle.cedar_grammar.specs.machines.Machine.{outline_machine, no_tree}
use Rattle.cedar_policy_machine.specs.machines.Policies.{all_policies_outline, all_policies_shape}
use Rattle.cedar_text.specs.machines.PolicyParts.{policy_part_outlines, whole_policies_reader}
use Rattle.cedar_expression_machine.specs.machines.WholeExpressions.{state_shape}
use Rattle.cedar_expression_machine.specs.machines.WordShapes.{path_shape}
use Rattle.cedar_policy_machine.proofs.machines.MendedClauses.{has_list, one_fault_list}
use Rattle.cedar_text.proofs.machines.PolicyParts.{all_policies_read, policies_mend}
use Rattle.cedar_text.proofs.machines.TextRules.{text_rule}
use Rattle.cedar_text.proofs.text_to_cst.laws.policies.Goals as goal

pub returns-clause-rule : goal.returns-clause-rule
returns-clause-rule c = text_rule _ _ whole_policies_reader (outline_machine (all_policies_outline policy_part_outlines)) (λ s. all_policies_shape path_shape state_shape state_shape s.text.state) no_tree all_policies_read (λ src. (policies_mend src).mended.shaped)

pub returns-clause-fault_list : goal.returns-clause-fault_list
returns-clause-fault_list c = λ src ts. has_list PoliciesBefore (policies_mend src) ts

pub returns-clause-one_list : goal.returns-clause-one_list
returns-clause-one_list c = λ src ts xs ys x y h g. one_fault_list PoliciesBefore (policies_mend src) ts xs ys x y h g

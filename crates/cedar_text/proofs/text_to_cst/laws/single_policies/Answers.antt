use Rattle.cedar_grammar.specs.faults.MendedFaults.{NothingBefore}
use Rattle.cedar_grammar.specs.machines.Machine.{outline_machine, no_tree}
use Rattle.cedar_policy_machine.specs.machines.Policies.{one_policy_outline, one_policy_shape}
use Rattle.cedar_text.specs.machines.PolicyParts.{policy_part_outlines, whole_policy_reader}
use Rattle.cedar_expression_machine.specs.machines.WholeExpressions.{state_shape}
use Rattle.cedar_expression_machine.specs.machines.WordShapes.{path_shape}
use Rattle.cedar_policy_machine.proofs.machines.MendedClauses.{has_list, one_fault_list}
use Rattle.cedar_text.proofs.machines.PolicyParts.{one_policy_read, policy_mends}
use Rattle.cedar_text.proofs.machines.TextRules.{text_rule}
use Rattle.cedar_text.proofs.text_to_cst.laws.single_policies.Goals as goal

pub returns-clause-rule : goal.returns-clause-rule
returns-clause-rule c = text_rule _ _ whole_policy_reader (outline_machine (one_policy_outline policy_part_outlines)) (λ s. one_policy_shape path_shape state_shape state_shape s) no_tree one_policy_read (λ src. (policy_mends src).mended.shaped)

pub returns-clause-fault_list : goal.returns-clause-fault_list
returns-clause-fault_list c = λ src ts. has_list NothingBefore (policy_mends src) ts

pub returns-clause-one_list : goal.returns-clause-one_list
returns-clause-one_list c = λ src ts xs ys x y h g. one_fault_list NothingBefore (policy_mends src) ts xs ys x y h g

-- Policies over the readers of names, sums and expressions, and how they recover.
use Rattle.std.proofs.Common.{ℕ, List, refl}
use Rattle.cedar_syntax.specs.declared.err.faults.ParseError.{ParseError}
use Rattle.cedar_grammar.specs.grammar.Grammar.{IsNodeOf}
use Rattle.cedar_grammar.specs.grammar.LoosePolicies.{ReadsPolicies, ReadsPolicy}
use Rattle.cedar_grammar.specs.faults.MendedFaults.{NothingBefore, PoliciesBefore}
use Rattle.cedar_grammar.specs.machines.Machine.{outline_machine}
use Rattle.cedar_grammar.specs.machines.Judged.{ReadsBy}
use Rattle.cedar_grammar.specs.machines.Recovery.{Recovers}
use Rattle.cedar_text.specs.declared.text_to_cst.whole_texts.WholePoliciesState.{WholePoliciesState}
use Rattle.cedar_policy_machine.specs.machines.Policies.{one_policy_outline, one_policy_shape, all_policies_outline, all_policies_shape}
use Rattle.cedar_text.specs.machines.PolicyParts.{policy_parts, policy_part_outlines, WholePolicyState, inner_state, whole_state, whole_policy_reader, whole_policies_reader}
use Rattle.cedar_expression_machine.specs.machines.WholeExpressions.{state_shape}
use Rattle.cedar_expression_machine.specs.machines.WordShapes.{path_shape}
use Rattle.cedar_policy_machine.proofs.machines.Mapped.{IsWrapped}
use Rattle.cedar_policy_machine.proofs.machines.MendedClauses.{Mends}
use Rattle.cedar_policy_machine.proofs.machines.Policies.{Grounds}
use Rattle.cedar_policy_machine.proofs.machines.PolicyFaults.{whole_recovers, whole_mends, policies_read, one_recovering, one_mends, policy_is_read}
use Rattle.cedar_text.proofs.machines.WholeParts.{part_parsers, body_outside, parts_outlined}

grounds : (src : List ℕ) → Grounds src policy_parts
grounds src = record { parts = part_parsers src; behind_body = body_outside src }

text_wrapped : IsWrapped inner_state whole_state
text_wrapped = record { there = λ s. refl; back = λ h. refl }

abbrev pub all_recovers : List ℕ → Recovers WholePoliciesState ParseError
all_recovers src = whole_recovers src inner_state whole_state policy_parts

abbrev pub one_recovers : List ℕ → Recovers WholePolicyState ParseError
one_recovers src = one_recovering src policy_parts

pub policies_mend : (src : List ℕ) → Mends ReadsPolicies PoliciesBefore src whole_policies_reader (all_recovers src) (outline_machine (all_policies_outline policy_part_outlines))
    (λ s. all_policies_shape path_shape (λ q. state_shape q) (λ q. state_shape q) (inner_state s).state)
policies_mend src = whole_mends src inner_state whole_state text_wrapped policy_parts policy_part_outlines path_shape (λ q. state_shape q) (λ q. state_shape q) (grounds src) (parts_outlined src)

pub policy_mends : (src : List ℕ) → Mends ReadsPolicy NothingBefore src whole_policy_reader (one_recovers src) (outline_machine (one_policy_outline policy_part_outlines))
    (λ s. one_policy_shape path_shape (λ q. state_shape q) (λ q. state_shape q) s)
policy_mends src = one_mends src policy_parts policy_part_outlines path_shape (λ q. state_shape q) (λ q. state_shape q) (grounds src) (parts_outlined src)

pub all_policies_read : (src : List ℕ) → ReadsBy src whole_policies_reader (IsNodeOf ReadsPolicies src)
all_policies_read src = policies_read src inner_state whole_state text_wrapped policy_parts policy_part_outlines path_shape (λ q. state_shape q) (λ q. state_shape q) (grounds src) (parts_outlined src)

pub one_policy_read : (src : List ℕ) → ReadsBy src whole_policy_reader (IsNodeOf ReadsPolicy src)
one_policy_read src = policy_is_read src policy_parts policy_part_outlines path_shape (λ q. state_shape q) (λ q. state_shape q) (grounds src) (parts_outlined src)

-- How one policy and policies are read, over readers of names, sums and expressions, and how they
-- recover.
use Rattle.std.specs.Prelude.{ℕ, List, [], Option, Some, None}
use Rattle.cedar_lexer.specs.Token.{Lexeme}
use Rattle.cedar_syntax.specs.declared.cst.Annotation.{Annotation}
use Rattle.cedar_syntax.specs.declared.cst.VariableDef.{VariableDef}
use Rattle.cedar_syntax.specs.declared.cst.Cond.{Cond}
use Rattle.cedar_syntax.specs.declared.cst.Policy.{Policy}
use Rattle.cedar_policy_machine.specs.declared.annotation.AnnotationState.{AnnotationState}
use Rattle.cedar_policy_machine.specs.declared.annotation.AnnotationAct.{AnnotationAct}
use Rattle.cedar_policy_machine.specs.declared.scope.ElementState.{ElementState}
use Rattle.cedar_policy_machine.specs.declared.scope.ElementPart.{ElementPart}
use Rattle.cedar_policy_machine.specs.declared.scope.ElementAct.{ElementAct}
use Rattle.cedar_policy_machine.specs.declared.condition.ConditionState.{ConditionState}
use Rattle.cedar_policy_machine.specs.declared.condition.ConditionPart.{ConditionPart}
use Rattle.cedar_policy_machine.specs.declared.condition.ConditionPart.TheVariants as part
use Rattle.cedar_policy_machine.specs.declared.condition.ConditionAct.{ConditionAct}
use Rattle.cedar_policy_machine.specs.declared.policy.PolicyAct.{PolicyAct}
use Rattle.cedar_policy_machine.specs.declared.policy.Section.{Section}
use Rattle.cedar_policy_machine.specs.declared.policy.Section.TheVariants as section
use Rattle.cedar_grammar.specs.declared.reading.recovery.RecoveryWay.{RecoveryWay}
use Rattle.cedar_grammar.specs.declared.reading.recovery.RecoveryWay.TheVariants as way
use Rattle.cedar_policy_machine.specs.declared.sequence.SpannedState.{SpannedState}
use Rattle.cedar_policy_machine.specs.declared.sequence.Sequence.{Sequence}
use Rattle.cedar_policy_machine.specs.declared.sequence.SequenceAct.{SequenceAct}
use Rattle.cedar_syntax.specs.trees.Trees.{Cell}
use Rattle.cedar_grammar.specs.machines.Machine.{Machine, Reader, machine_of, Outline}
use Rattle.cedar_policy_machine.specs.machines.Placing.{spanned_state, placing_reader}
use Rattle.cedar_policy_machine.specs.machines.Sequences.{sequence, many_reader, list_reader}
use Rattle.cedar_policy_machine.specs.machines.Annotation.{annotation_reader, AnnotationShape, annotation_shape}
use Rattle.cedar_policy_machine.specs.machines.Scope.{PartReaders, element_reader}
use Rattle.cedar_policy_machine.specs.machines.Condition.{condition_state, condition_reader}
use Rattle.cedar_policy_machine.specs.machines.PartOutlines.{annotation_outline, PartOutlines, element_shape, element_outline, condition_shape, condition_outline}
use Rattle.cedar_policy_machine.specs.machines.Policy.{PolicyOf, policy_state, Sections, with_conditions, policy_reader}
use Rattle.cedar_policy_machine.specs.machines.SequenceShapes.{spanned_shape, sequence_shape, many_outline, list_outline}
use Rattle.cedar_policy_machine.specs.machines.PolicyShapes.{PolicyShape, policy_shape, SectionOutlines, policy_outline}
use Rattle.cedar_grammar.specs.machines.Recovery.{Recovers}

abbrev pub AnnotationsState : Type 0
AnnotationsState = Sequence (SpannedState AnnotationState) (Cell Annotation)

abbrev pub ScopeState : Type 0 → Type 0 → Type 0 → Type 0
ScopeState N S E = Sequence (SpannedState (ElementState N S E)) (Cell VariableDef)

abbrev pub ConditionsState : Type 0 → Type 0
ConditionsState E = Sequence (SpannedState (ConditionState E)) (Cell Cond)

abbrev pub OnePolicy : Type 0 → Type 0 → Type 0 → Type 0
OnePolicy N S E =
    PolicyOf (SpannedState AnnotationState) (SpannedState (ElementState N S E))
    (SpannedState (ConditionState E))

-- one policy, and policies

abbrev pub SpannedPolicy : Type 0 → Type 0 → Type 0 → Type 0
SpannedPolicy N S E = SpannedState (OnePolicy N S E)

abbrev pub PoliciesState : Type 0 → Type 0 → Type 0 → Type 0
PoliciesState N S E = Sequence (SpannedPolicy N S E) (Cell Policy)

-- what is done with a token

abbrev pub OneAct : Type 0 → Type 0 → Type 0 → Type 0
OneAct A B C =
    PolicyAct (SequenceAct AnnotationAct) (SequenceAct (ElementAct A B C))
    (SequenceAct (ConditionAct C))

abbrev pub sections : {N S E A B C : Type 0} → PartReaders N S E A B C →
    Sections (SpannedState AnnotationState) (SpannedState (ElementState N S E))
    (SpannedState (ConditionState E))
    (SequenceAct AnnotationAct) (SequenceAct (ElementAct A B C)) (SequenceAct (ConditionAct C))
sections m = record {
  annotations = many_reader (placing_reader annotation_reader);
  scope = list_reader (placing_reader (element_reader m));
  conditions = many_reader (placing_reader (condition_reader m.expression));
}

abbrev pub one_policy_reader : {N S E A B C : Type 0} → PartReaders N S E A B C →
    Reader (SpannedPolicy N S E) (OneAct A B C) (Cell Policy)
one_policy_reader m = placing_reader (policy_reader (sections m))

abbrev pub all_policies_reader : {N S E A B C : Type 0} → PartReaders N S E A B C →
    Reader (PoliciesState N S E) (SequenceAct (OneAct A B C)) (List (Cell Policy))
all_policies_reader m = many_reader (one_policy_reader m)

abbrev pub policy_machine : {N S E A B C : Type 0} → List ℕ → PartReaders N S E A B C →
    Machine Lexeme (SpannedPolicy N S E) (Cell Policy)
policy_machine src m = machine_of src (one_policy_reader m)

abbrev pub policies_machine : {N S E A B C : Type 0} → List ℕ → PartReaders N S E A B C →
    Machine Lexeme (PoliciesState N S E) (List (Cell Policy))
policies_machine src m = machine_of src (all_policies_reader m)

-- their shapes

abbrev pub OnePolicyShape : Type 0 → Type 0 → Type 0 → Type 0
OnePolicyShape N S E =
    PolicyShape (Option AnnotationShape) (Option (ElementPart N S E)) (Option (ConditionPart E))

abbrev pub section_outlines : {N S E A B C : Type 0} → PartOutlines N S E A B C →
    SectionOutlines (Option AnnotationShape) (Option (ElementPart N S E))
    (Option (ConditionPart E)) (SequenceAct AnnotationAct) (SequenceAct (ElementAct A B C))
    (SequenceAct (ConditionAct C))
section_outlines n = record {
  annotations = many_outline annotation_outline;
  scope = list_outline (element_outline n);
  conditions = many_outline (condition_outline n.expression);
}

abbrev pub one_policy_outline : {N S E A B C : Type 0} → PartOutlines N S E A B C →
    Outline (OnePolicyShape N S E) (OneAct A B C) (Unit {0})
one_policy_outline n = policy_outline (section_outlines n)

abbrev pub all_policies_outline : {N S E A B C : Type 0} → PartOutlines N S E A B C →
    Outline (Option (OnePolicyShape N S E)) (SequenceAct (OneAct A B C)) (Unit {0})
all_policies_outline n = many_outline (one_policy_outline n)

abbrev pub one_policy_shape : {N S E L M F : Type 0} → (N → L) → (S → M) → (E → F) →
    SpannedPolicy N S E → OnePolicyShape L M F
one_policy_shape f g h s =
    policy_shape (sequence_shape (spanned_shape annotation_shape))
    (sequence_shape (spanned_shape (element_shape f g h)))
    (sequence_shape (spanned_shape (condition_shape h))) s.state

abbrev pub all_policies_shape : {N S E L M F : Type 0} → (N → L) → (S → M) → (E → F) →
    PoliciesState N S E → Option (OnePolicyShape L M F)
all_policies_shape f g h s = sequence_shape (one_policy_shape f g h) s

-- how a fault is left: in the braces of a condition to their end or the policy's, else to the
-- policy's

abbrev pub condition_way : {E : Type 0} → ConditionPart E → RecoveryWay
condition_way part.Start = way.ToEnd
condition_way part.Word = way.ToEnd
condition_way part.Opened = way.ToBrace
condition_way (part.Body s) = way.ToBrace
condition_way (part.Closed x) = way.ToEnd

abbrev pub begun_condition_way : {E : Type 0} → Option (SpannedState (ConditionState E))
    → RecoveryWay
begun_condition_way None = way.ToEnd
begun_condition_way (Some s) = condition_way s.state.part

-- `w` is the way behind a whole policy
abbrev pub section_way : {N S E : Type 0} → RecoveryWay → Section → OnePolicy N S E → RecoveryWay
section_way w section.Annotations s = way.ToEnd
section_way w section.Effect s = way.ToEnd
section_way w section.Scope s = way.ToEnd
section_way w section.Conditions s = begun_condition_way s.conditions.begun
section_way w section.Closed s = w

abbrev pub policy_way : {N S E : Type 0} → RecoveryWay → OnePolicy N S E → RecoveryWay
policy_way w s = section_way w s.section s

abbrev pub begun_policy_way : {N S E : Type 0} → Option (SpannedPolicy N S E) → RecoveryWay
begun_policy_way None = way.ToEnd
begun_policy_way (Some s) = policy_way way.ToEnd s.state

-- the condition that is begun ends with nothing in its braces

abbrev pub closed_part : {E : Type 0} → ConditionPart E → ConditionPart E
closed_part part.Start = part.Start
closed_part part.Word = part.Word
closed_part part.Opened = part.Closed None
closed_part (part.Body s) = part.Closed None
closed_part (part.Closed x) = part.Closed x

abbrev pub closed_condition : {E : Type 0} → ConditionState E → ConditionState E
closed_condition s = condition_state s.word (closed_part s.part)

abbrev pub condition_closing : {E : Type 0} → List (Cell Cond)
    → Option (SpannedState (ConditionState E)) → ConditionsState E
condition_closing zs None = sequence zs None
condition_closing zs (Some s) =
    sequence zs (Some (spanned_state s.extent (closed_condition s.state)))

abbrev pub section_closing : {N S E : Type 0} → Section → OnePolicy N S E → OnePolicy N S E
section_closing section.Annotations s = s
section_closing section.Effect s = s
section_closing section.Scope s = s
section_closing section.Conditions s =
    with_conditions s (condition_closing s.conditions.done s.conditions.begun)
section_closing section.Closed s = s

abbrev pub closed_policy : {N S E : Type 0} → OnePolicy N S E → OnePolicy N S E
closed_policy s = section_closing s.section s

-- a policy of which nothing is known
abbrev pub unknown_policy : {N S E : Type 0} → OnePolicy N S E
unknown_policy =
    policy_state section.Closed (sequence [] None) record { node = None; loc = None }
    (sequence [] None) (sequence [] None)

abbrev pub policy_closing : {N S E : Type 0} → SpannedPolicy N S E → SpannedPolicy N S E
policy_closing s = spanned_state s.extent (closed_policy s.state)

abbrev pub policy_ending : {N S E : Type 0} → SpannedPolicy N S E → SpannedPolicy N S E
policy_ending s = spanned_state s.extent unknown_policy

abbrev pub policies_closing : {N S E : Type 0} → List (Cell Policy)
    → Option (SpannedPolicy N S E) → PoliciesState N S E
policies_closing xs None = sequence xs None
policies_closing xs (Some s) = sequence xs (Some (policy_closing s))

-- the policy that is begun, if there is one, gives way to one of which nothing is known
abbrev pub policies_ending : {N S E : Type 0} → List (Cell Policy) → PoliciesState N S E
policies_ending xs = sequence xs (Some (spanned_state None unknown_policy))

-- how the parser of one policy recovers, and that of policies; faults are told by `tell` and
-- `large`

abbrev pub policy_recovers : {N S E F : Type 0} → (SpannedPolicy N S E → ℕ → Option Lexeme → F) →
    (Lexeme → F) → Recovers (SpannedPolicy N S E) F
policy_recovers tell large = record {
  way = λ s. policy_way way.Stop s.state;
  close = λ s. policy_closing s;
  end = λ s. policy_ending s;
  tell = tell;
  large = large;
}

abbrev pub policies_recover : {N S E F : Type 0} → (PoliciesState N S E → ℕ → Option Lexeme → F) →
    (Lexeme → F) → Recovers (PoliciesState N S E) F
policies_recover tell large = record {
  way = λ s. begun_policy_way s.begun;
  close = λ s. policies_closing s.done s.begun;
  end = λ s. policies_ending s.done;
  tell = tell;
  large = large;
}

-- policies as a whole text are left as policies are

abbrev pub text_closing : {N S E : Type 0} → SpannedState (PoliciesState N S E)
    → SpannedState (PoliciesState N S E)
text_closing s = spanned_state s.extent (policies_closing s.state.done s.state.begun)

abbrev pub text_ending : {N S E : Type 0} → SpannedState (PoliciesState N S E)
    → SpannedState (PoliciesState N S E)
text_ending s = spanned_state s.extent (policies_ending s.state.done)

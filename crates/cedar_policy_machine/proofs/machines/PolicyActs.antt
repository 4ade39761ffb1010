-- What is planned of a policy says what its parts may do.
use Rattle.std.proofs.Common.{◌≡◌, ℕ, List, Option, Some, None, true, ◌∙◌, ap, sym}
use Rattle.cedar_lexer.specs.Token.{Lexeme}
use Rattle.cedar_lexer.specs.declared.token.TokenKind.{TokenKind}
use Rattle.cedar_policy_machine.specs.declared.annotation.AnnotationAct.{AnnotationAct}
use Rattle.cedar_policy_machine.specs.declared.condition.ConditionAct.{ConditionAct}
use Rattle.cedar_policy_machine.specs.declared.policy.PolicyAct.{PolicyAct}
use Rattle.cedar_policy_machine.specs.declared.policy.PolicyAct.TheVariants as act
use Rattle.cedar_policy_machine.specs.declared.policy.Section.TheVariants as section
use Rattle.cedar_policy_machine.specs.declared.scope.ElementAct.{ElementAct}
use Rattle.cedar_policy_machine.specs.declared.sequence.Sequence.{Sequence}
use Rattle.cedar_policy_machine.specs.declared.sequence.SequenceAct.{SequenceAct}
use Rattle.cedar_syntax.specs.declared.cst.VariableDef.{VariableDef}
use Rattle.cedar_syntax.specs.trees.Trees.{Cell}
use Rattle.cedar_grammar.specs.machines.Machine.{option_image}
use Rattle.cedar_policy_machine.specs.machines.Annotation.{annotation_reader}
use Rattle.cedar_policy_machine.specs.machines.Condition.{condition_reader}
use Rattle.cedar_policy_machine.specs.machines.Placing.{placing_reader}
use Rattle.cedar_policy_machine.specs.machines.Policies.{OnePolicy, OneAct, sections}
use Rattle.cedar_policy_machine.specs.machines.Policy.{PolicyOf, Sections, policy_state, behind_scope, policy_plan, policy_act}
use Rattle.cedar_policy_machine.specs.machines.Scope.{PartReaders, element_reader}
use Rattle.cedar_policy_machine.specs.machines.Sequences.{sequence_ends, items_ended, IsSequencePlan}
use Rattle.cedar_policy_machine.proofs.machines.PolicyShapes.{section_planned}
use Rattle.cedar_policy_machine.proofs.machines.SequenceShapes.{many_planned, list_planned}

pub annotation_planned : {N S E A B C : Type 0} (m : PartReaders N S E A B C) (s : OnePolicy N S E) (k : TokenKind) (c : OneAct A B C) (a : SequenceAct AnnotationAct) → policy_plan (sections m) s.section s k ≡ Some c → c ≡ act.Annotation a →
    IsSequencePlan (placing_reader annotation_reader) s.annotations.begun k a
annotation_planned m s k c a h e = many_planned (placing_reader annotation_reader) s.annotations.begun k a (section_planned (sections m) s.section s k (act.Annotation a) (h ∙ ap (λ c. Some c) e)).1

pub element_planned : {N S E A B C : Type 0} (m : PartReaders N S E A B C) (s : OnePolicy N S E) (k : TokenKind) (c : OneAct A B C) (a : SequenceAct (ElementAct A B C)) → policy_plan (sections m) s.section s k ≡ Some c → c ≡ act.Element a →
    IsSequencePlan (placing_reader (element_reader m)) s.scope.begun k a
element_planned m s k c a h e = list_planned (placing_reader (element_reader m)) s.scope.begun k a (section_planned (sections m) s.section s k (act.Element a) (h ∙ ap (λ c. Some c) e)).1

pub condition_planned : {N S E A B C : Type 0} (m : PartReaders N S E A B C) (s : OnePolicy N S E) (k : TokenKind) (c : OneAct A B C) (a : SequenceAct (ConditionAct C)) → policy_plan (sections m) s.section s k ≡ Some c → c ≡ act.Condition a →
    IsSequencePlan (placing_reader (condition_reader m.expression)) s.conditions.begun k a
condition_planned m s k c a h e = many_planned (placing_reader (condition_reader m.expression)) s.conditions.begun k a (section_planned (sections m) s.section s k (act.Condition a) (h ∙ ap (λ c. Some c) e)).1

-- a part ends where the policy goes on behind it

pub annotations_end : {N S E A B C : Type 0} (m : PartReaders N S E A B C) (s : OnePolicy N S E) (k : TokenKind) (c : OneAct A B C) → policy_plan (sections m) s.section s k ≡ Some c → c ≡ act.Effect → sequence_ends (placing_reader annotation_reader).ends s.annotations.begun ≡ true
annotations_end m s k c h e = (section_planned (sections m) s.section s k act.Effect (h ∙ ap (λ c. Some c) e)).1

pub scope_ends : {N S E A B C : Type 0} (m : PartReaders N S E A B C) (s : OnePolicy N S E) (k : TokenKind) (c : OneAct A B C) → policy_plan (sections m) s.section s k ≡ Some c → c ≡ act.Close → sequence_ends (placing_reader (element_reader m)).ends s.scope.begun ≡ true
scope_ends m s k c h e = (section_planned (sections m) s.section s k act.Close (h ∙ ap (λ c. Some c) e)).1

pub conditions_end : {N S E A B C : Type 0} (m : PartReaders N S E A B C) (s : OnePolicy N S E) (k : TokenKind) (c : OneAct A B C) → policy_plan (sections m) s.section s k ≡ Some c → c ≡ act.Shut →
    sequence_ends (placing_reader (condition_reader m.expression)).ends s.conditions.begun ≡ true
conditions_end m s k c h e = (section_planned (sections m) s.section s k act.Shut (h ∙ ap (λ c. Some c) e)).1

-- behind `)` the elements stay, and conditions may come

elements_stay : {A V C : Type 0} (s : PolicyOf A V C) (o : Option (List (Cell VariableDef))) (q : Sequence V (Cell VariableDef)) → items_ended o ≡ Some q →
    Some (policy_state section.Conditions s.annotations s.effect q s.conditions) ≡ option_image (λ ys. behind_scope s ys) o
elements_stay s None q h = cc
elements_stay s (Some ys) q h = cc

pub scope_closed : {A V C X Y Z : Type 0} (m : Sections A V C X Y Z) (src : List ℕ) (s : PolicyOf A V C) (q : Sequence V (Cell VariableDef)) (a : PolicyAct X Y Z) (t : Lexeme) → a ≡ act.Close → items_ended (m.scope.finish src s.scope) ≡ Some q →
    Some (policy_state section.Conditions s.annotations s.effect q s.conditions) ≡ policy_act m src s a t
scope_closed m src s q a t e h = elements_stay s (m.scope.finish src s.scope) q h ∙ ap (λ a. policy_act m src s a t) (sym e)

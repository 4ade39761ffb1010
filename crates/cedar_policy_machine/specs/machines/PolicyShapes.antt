-- What of a policy's state decides which kinds may come next: its section, and what of the parts
-- that are begun or to come does.
use Rattle.std.specs.Prelude.{Option, Some, None}
use Rattle.cedar_lexer.specs.declared.token.TokenKind.{TokenKind}
use Rattle.cedar_syntax.specs.declared.cst.Annotation.{Annotation}
use Rattle.cedar_syntax.specs.declared.cst.VariableDef.{VariableDef}
use Rattle.cedar_syntax.specs.declared.cst.Cond.{Cond}
use Rattle.cedar_policy_machine.specs.declared.policy.Section.{Section}
use Rattle.cedar_policy_machine.specs.declared.policy.Section.TheVariants as section
use Rattle.cedar_policy_machine.specs.declared.policy.PolicyAct.{PolicyAct}
use Rattle.cedar_policy_machine.specs.declared.policy.PolicyAct.TheVariants as act
use Rattle.cedar_policy_machine.specs.declared.sequence.Sequence.{Sequence}
use Rattle.cedar_syntax.specs.trees.Trees.{Cell}
use Rattle.cedar_grammar.specs.machines.Machine.{Outline, is_some}
use Rattle.cedar_policy_machine.specs.machines.Policy.{PolicyOf, annotations_plan, open_plan, scope_plan, conditions_plan}

pub data PolicyShape (A V C : Type 0) : Type 0 where
  in_head : A → V → C → PolicyShape A V C
  has_effect : V → C → PolicyShape A V C
  in_parens : V → C → PolicyShape A V C
  behind_parens : C → PolicyShape A V C
  whole_policy : PolicyShape A V C

abbrev pub section_shape : {A V C F G H : Type 0} → (Sequence A (Cell Annotation) → F) →
    (Sequence V (Cell VariableDef) → G) → (Sequence C (Cell Cond) → H) → Section → PolicyOf A V C →
    PolicyShape F G H
section_shape f g h section.Annotations s = in_head (f s.annotations) (g s.scope) (h s.conditions)
section_shape f g h section.Effect s = has_effect (g s.scope) (h s.conditions)
section_shape f g h section.Scope s = in_parens (g s.scope) (h s.conditions)
section_shape f g h section.Conditions s = behind_parens (h s.conditions)
section_shape f g h section.Closed s = whole_policy

abbrev pub policy_shape : {A V C F G H : Type 0} → (Sequence A (Cell Annotation) → F) →
    (Sequence V (Cell VariableDef) → G) → (Sequence C (Cell Cond) → H) → PolicyOf A V C →
    PolicyShape F G H
policy_shape f g h s = section_shape f g h s.section s

-- the outlines of the parts
pub record SectionOutlines (A V C X Y Z : Type 0) : Type 0 where
  pub annotations : Outline A X (Unit {0})
  pub scope : Outline V Y (Unit {0})
  pub conditions : Outline C Z (Unit {0})

abbrev pub policy_shape_plan : {A V C X Y Z : Type 0} → SectionOutlines A V C X Y Z →
    PolicyShape A V C → TokenKind → Option (PolicyAct X Y Z)
policy_shape_plan n (in_head u v c) k =
    annotations_plan (n.annotations.plan u k) (is_some (n.annotations.finish u)) k
policy_shape_plan n (has_effect v c) k = open_plan k
policy_shape_plan n (in_parens v c) k =
    scope_plan (n.scope.plan v k) (is_some (n.scope.finish v)) k
policy_shape_plan n (behind_parens c) k =
    conditions_plan (n.conditions.plan c k) (is_some (n.conditions.finish c)) k
policy_shape_plan n whole_policy k = None

-- acts; where one isn't planned the shape stays

abbrev pub annotation_shape_act : {A V C X : Type 0} → Outline A X (Unit {0}) →
    PolicyShape A V C → X → TokenKind → PolicyShape A V C
annotation_shape_act n (in_head u v c) a k = in_head (n.act u a k) v c
annotation_shape_act n u a k = u

abbrev pub effect_shape_act : {A V C : Type 0} → PolicyShape A V C → PolicyShape A V C
effect_shape_act (in_head u v c) = has_effect v c
effect_shape_act u = u

abbrev pub open_shape_act : {A V C : Type 0} → PolicyShape A V C → PolicyShape A V C
open_shape_act (has_effect v c) = in_parens v c
open_shape_act u = u

abbrev pub scope_shape_act : {A V C Y : Type 0} → Outline V Y (Unit {0}) → PolicyShape A V C → Y →
    TokenKind → PolicyShape A V C
scope_shape_act n (in_parens v c) a k = in_parens (n.act v a k) c
scope_shape_act n u a k = u

abbrev pub close_shape_act : {A V C : Type 0} → PolicyShape A V C → PolicyShape A V C
close_shape_act (in_parens v c) = behind_parens c
close_shape_act u = u

abbrev pub conditions_shape_act : {A V C Z : Type 0} → Outline C Z (Unit {0}) →
    PolicyShape A V C → Z → TokenKind → PolicyShape A V C
conditions_shape_act n (behind_parens c) a k = behind_parens (n.act c a k)
conditions_shape_act n u a k = u

abbrev pub policy_shape_act : {A V C X Y Z : Type 0} → SectionOutlines A V C X Y Z →
    PolicyShape A V C → PolicyAct X Y Z → TokenKind → PolicyShape A V C
policy_shape_act n u (act.Annotation a) k = annotation_shape_act n.annotations u a k
policy_shape_act n u act.Effect k = effect_shape_act u
policy_shape_act n u act.Open k = open_shape_act u
policy_shape_act n u (act.Element a) k = scope_shape_act n.scope u a k
policy_shape_act n u act.Close k = close_shape_act u
policy_shape_act n u (act.Condition a) k = conditions_shape_act n.conditions u a k
policy_shape_act n u act.Shut k = whole_policy

abbrev pub policy_shape_finish : {A V C : Type 0} → PolicyShape A V C → Option (Unit {0})
policy_shape_finish (in_head u v c) = None
policy_shape_finish (has_effect v c) = None
policy_shape_finish (in_parens v c) = None
policy_shape_finish (behind_parens c) = None
policy_shape_finish whole_policy = Some tt

abbrev pub policy_outline : {A V C X Y Z : Type 0} → SectionOutlines A V C X Y Z →
    Outline (PolicyShape A V C) (PolicyAct X Y Z) (Unit {0})
policy_outline n = record {
  start = in_head n.annotations.start n.scope.start n.conditions.start;
  plan = λ u k. policy_shape_plan n u k;
  act = λ u a k. policy_shape_act n u a k;
  finish = λ u. policy_shape_finish u;
}

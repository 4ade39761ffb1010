-- What of the states of annotations, elements of the scope and conditions decides which kinds may
-- come next: the part that is begun, without what has been read.
use Rattle.std.specs.Prelude.{Option, Some, None}
use Rattle.cedar_lexer.specs.declared.token.TokenKind.{TokenKind}
use Rattle.cedar_policy_machine.specs.declared.annotation.AnnotationAct.{AnnotationAct}
use Rattle.cedar_policy_machine.specs.declared.annotation.AnnotationAct.TheVariants as annotation
use Rattle.cedar_policy_machine.specs.declared.scope.ElementState.{ElementState}
use Rattle.cedar_policy_machine.specs.declared.scope.ElementPart.{ElementPart}
use Rattle.cedar_policy_machine.specs.declared.scope.ElementPart.TheVariants as part
use Rattle.cedar_policy_machine.specs.declared.scope.ElementAct.{ElementAct}
use Rattle.cedar_policy_machine.specs.declared.scope.ElementAct.TheVariants as element
use Rattle.cedar_policy_machine.specs.declared.condition.ConditionState.{ConditionState}
use Rattle.cedar_policy_machine.specs.declared.condition.ConditionPart.{ConditionPart}
use Rattle.cedar_policy_machine.specs.declared.condition.ConditionPart.TheVariants as inner
use Rattle.cedar_policy_machine.specs.declared.condition.ConditionAct.{ConditionAct}
use Rattle.cedar_policy_machine.specs.declared.condition.ConditionAct.TheVariants as condition
use Rattle.cedar_grammar.specs.machines.Machine.{Outline, is_some, ends_with}
use Rattle.cedar_policy_machine.specs.machines.Annotation.{AnnotationShape, no_annotation, behind_at, has_key, wants_value, has_value, whole_annotation, annotation_plan, annotation_ends}
use Rattle.cedar_policy_machine.specs.machines.Scope.{PartPlans, element_plan}
use Rattle.cedar_policy_machine.specs.machines.Condition.{condition_plan, condition_ends}

-- ---- annotations

-- what an act makes of the shape hangs on no shape
abbrev pub annotation_shape_act : AnnotationAct → AnnotationShape
annotation_shape_act annotation.Mark = behind_at
annotation_shape_act annotation.Key = has_key
annotation_shape_act annotation.Open = wants_value
annotation_shape_act annotation.Value = has_value
annotation_shape_act annotation.Close = whole_annotation

abbrev pub annotation_outline : Outline AnnotationShape AnnotationAct (Unit {0})
annotation_outline = record {
  start = no_annotation;
  plan = λ u k. annotation_plan u k;
  act = λ u a k. annotation_shape_act a;
  finish = λ u. ends_with (annotation_ends u);
}

-- ---- elements of the scope

-- the outlines of the parts
pub record PartOutlines (N S E A B C : Type 0) : Type 0 where
  pub name : Outline N A (Unit {0})
  pub sum : Outline S B (Unit {0})
  pub expression : Outline E C (Unit {0})

abbrev pub outline_plans : {N S E A B C : Type 0} → PartOutlines N S E A B C →
    PartPlans N S E A B C
outline_plans n = record {
  name = n.name.plan;
  name_ends = λ u. is_some (n.name.finish u);
  sum = n.sum.plan;
  sum_ends = λ u. is_some (n.sum.finish u);
  expression = n.expression.plan;
  expression_ends = λ u. is_some (n.expression.finish u);
}

abbrev pub element_part_shape : {N S E L M F : Type 0} → (N → L) → (S → M) → (E → F) →
    ElementPart N S E → ElementPart L M F
element_part_shape f g h part.Start = part.Start
element_part_shape f g h part.Nothing = part.Nothing
element_part_shape f g h (part.TypeName s) = part.TypeName (f s)
element_part_shape f g h (part.EntityType s) = part.EntityType (g s)
element_part_shape f g h (part.Constraint o s) = part.Constraint o (h s)

abbrev pub element_shape : {N S E L M F : Type 0} → (N → L) → (S → M) → (E → F) →
    ElementState N S E → ElementPart L M F
element_shape f g h s = element_part_shape f g h s.part

-- a token of the part that is begun

abbrev pub name_shape_act : {N S E A : Type 0} → Outline N A (Unit {0}) → ElementPart N S E → A →
    TokenKind → ElementPart N S E
name_shape_act n (part.TypeName u) a k = part.TypeName (n.act u a k)
name_shape_act n u a k = u

abbrev pub sum_shape_act : {N S E B : Type 0} → Outline S B (Unit {0}) → ElementPart N S E → B →
    TokenKind → ElementPart N S E
sum_shape_act n (part.EntityType u) a k = part.EntityType (n.act u a k)
sum_shape_act n u a k = u

abbrev pub constraint_shape_act : {N S E C : Type 0} → Outline E C (Unit {0}) →
    ElementPart N S E → C → TokenKind → ElementPart N S E
constraint_shape_act n (part.Constraint o u) a k = part.Constraint o (n.act u a k)
constraint_shape_act n u a k = u

abbrev pub element_shape_act : {N S E A B C : Type 0} → PartOutlines N S E A B C →
    ElementPart N S E → ElementAct A B C → TokenKind → ElementPart N S E
element_shape_act n u element.Variable k = part.Nothing
element_shape_act n u element.Colon k = part.TypeName n.name.start
element_shape_act n u (element.TypeName a) k = name_shape_act n.name u a k
element_shape_act n u element.Is k = part.EntityType n.sum.start
element_shape_act n u (element.EntityType a) k = sum_shape_act n.sum u a k
element_shape_act n u (element.Compare o) k = part.Constraint o n.expression.start
element_shape_act n u (element.Constraint a) k = constraint_shape_act n.expression u a k

abbrev pub element_shape_finish : {N S E A B C : Type 0} → PartOutlines N S E A B C →
    ElementPart N S E → Option (Unit {0})
element_shape_finish n part.Start = None
element_shape_finish n part.Nothing = Some tt
element_shape_finish n (part.TypeName u) = n.name.finish u
element_shape_finish n (part.EntityType u) = n.sum.finish u
element_shape_finish n (part.Constraint o u) = n.expression.finish u

abbrev pub element_outline : {N S E A B C : Type 0} → PartOutlines N S E A B C →
    Outline (ElementPart N S E) (ElementAct A B C) (Unit {0})
element_outline n = record {
  start = part.Start;
  plan = λ u k. element_plan (outline_plans n) u k;
  act = λ u a k. element_shape_act n u a k;
  finish = λ u. element_shape_finish n u;
}

-- ---- conditions

abbrev pub condition_part_shape : {E F : Type 0} → (E → F) → ConditionPart E → ConditionPart F
condition_part_shape f inner.Start = inner.Start
condition_part_shape f inner.Word = inner.Word
condition_part_shape f inner.Opened = inner.Opened
condition_part_shape f (inner.Body s) = inner.Body (f s)
condition_part_shape f (inner.Closed x) = inner.Closed None

abbrev pub condition_shape : {E F : Type 0} → (E → F) → ConditionState E → ConditionPart F
condition_shape f s = condition_part_shape f s.part

abbrev pub body_shape_act : {E C : Type 0} → Outline E C (Unit {0}) → ConditionPart E → C →
    TokenKind → ConditionPart E
body_shape_act n (inner.Body u) a k = inner.Body (n.act u a k)
body_shape_act n u a k = u

abbrev pub condition_shape_act : {E C : Type 0} → Outline E C (Unit {0}) → ConditionPart E →
    ConditionAct C → TokenKind → ConditionPart E
condition_shape_act n u condition.Word k = inner.Word
condition_shape_act n u condition.Open k = inner.Opened
condition_shape_act n u (condition.First a) k = inner.Body (n.act n.start a k)
condition_shape_act n u (condition.Body a) k = body_shape_act n u a k
condition_shape_act n u condition.Close k = inner.Closed None
condition_shape_act n u condition.CloseEmpty k = inner.Closed None

abbrev pub condition_outline : {E C : Type 0} → Outline E C (Unit {0}) →
    Outline (ConditionPart E) (ConditionAct C) (Unit {0})
condition_outline n = record {
  start = inner.Start;
  plan = λ u k.
      condition_plan (λ k. n.plan n.start k) n.plan (λ u. is_some (n.finish u)) u k;
  act = λ u a k. condition_shape_act n u a k;
  finish = λ u. ends_with (condition_ends u);
}

-- Annotations, elements of the scope and conditions go as their outlines do.
use Rattle.std.proofs.Common.{◌≡◌, ℕ, List, Option, Some, None, Bool, true, false, refl, sym, ◌∙◌, ap}
use Rattle.cedar_lexer.specs.Token.{Lexeme}
use Rattle.cedar_lexer.specs.declared.token.TokenKind.{TokenKind}
use Rattle.cedar_syntax.specs.declared.cst.Expr.{Expr}
use Rattle.cedar_syntax.specs.declared.cst.Ident.{Ident}
use Rattle.cedar_policy_machine.specs.declared.annotation.AnnotationState.{AnnotationState}
use Rattle.cedar_policy_machine.specs.declared.annotation.AnnotationState.TheVariants as annotation
use Rattle.cedar_policy_machine.specs.declared.annotation.AnnotationAct.{AnnotationAct}
use Rattle.cedar_policy_machine.specs.declared.scope.ElementState.{ElementState}
use Rattle.cedar_policy_machine.specs.declared.scope.ElementPart.{ElementPart}
use Rattle.cedar_policy_machine.specs.declared.scope.ElementPart.TheVariants as part
use Rattle.cedar_policy_machine.specs.declared.scope.ElementAct.{ElementAct}
use Rattle.cedar_policy_machine.specs.declared.condition.ConditionState.{ConditionState}
use Rattle.cedar_policy_machine.specs.declared.condition.ConditionPart.{ConditionPart}
use Rattle.cedar_policy_machine.specs.declared.condition.ConditionPart.TheVariants as inner
use Rattle.cedar_policy_machine.specs.declared.condition.ConditionAct.{ConditionAct}
use Rattle.cedar_syntax.specs.trees.Trees.{Cell}
use Rattle.cedar_grammar.specs.machines.Machine.{Reader, Outline, IsOutline, option_image, is_some, ends_with, no_tree}
use Rattle.cedar_policy_machine.specs.machines.Annotation.{any_node, annotation_shape, annotation_ends, annotation_act, annotation_finish, annotation_reader}
use Rattle.cedar_policy_machine.specs.machines.Scope.{PartReaders, element_with_part, type_name_plan, entity_type_plan, constraint_plan, reader_plans, element_plan, element_ends, element_act, with_variable, finished_element, element_reader}
use Rattle.cedar_policy_machine.specs.machines.Condition.{condition_state, opened_plan, body_plan, condition_plan, condition_act, condition_ends, finished_condition, condition_reader}
use Rattle.cedar_policy_machine.specs.machines.PartOutlines.{annotation_shape_act, annotation_outline, PartOutlines, outline_plans, element_part_shape, element_shape, element_shape_act, element_shape_finish, element_outline, condition_part_shape, condition_shape, condition_shape_act, condition_outline}
use Rattle.cedar_grammar.proofs.machines.Laws.{some_is}
use Rattle.cedar_policy_machine.proofs.machines.Annotation.{AnnotationPlanned, marks, keys, opens, fills, closes, annotation_planned, annotation_does}
use Rattle.cedar_policy_machine.proofs.machines.Condition.{ConditionPlanned, words, brace, first_goes, empty, body_goes, body_ends, condition_planned, condition_does}
use Rattle.cedar_policy_machine.proofs.machines.ElementPlans.{the_word, the_operator, ElementPlanned, names, colon, behind_variable, type_goes, behind_type, sum_goes, behind_sum, expression_goes, element_planned}
use Rattle.cedar_grammar.proofs.machines.Rightly.{image_of}
use Rattle.cedar_policy_machine.proofs.machines.Scope.{element_does}

-- what is made of an option has this shape, if all that may be made of it has
image_shaped : {A B U : Type 0} (f : A → B) (g : B → U) (u : U) → ((x : A) → g (f x) ≡ u) → (o : Option A) (y : B) → option_image f o ≡ Some y → g y ≡ u
image_shaped f g u h None y e = absurd (cc)
image_shaped f g u h (Some x) y e = ap g (sym (some_is e)) ∙ h x

-- a part's own shape
part_shaped : {A B U V : Type 0} (f : A → B) (g : B → V) (h : A → U) (p : U → V) → ((x : A) → g (f x) ≡ p (h x)) → (u : U) (o : Option A) → ((x : A) → o ≡ Some x → h x ≡ u) → (y : B) → option_image f o ≡ Some y → g y ≡ p u
part_shaped f g h p i u None k y e = absurd (cc)
part_shaped f g h p i u (Some x) k y e = ap g (sym (some_is e)) ∙ i x ∙ ap p (k x refl)

no_trees : {A B : Type 0} (f : A → B) (o : Option A) → option_image no_tree o ≡ option_image no_tree (option_image f o)
no_trees f None = refl
no_trees f (Some x) = refl

some_tree : (b : Bool) → b ≡ is_some (ends_with b)
some_tree true = refl
some_tree false = refl

-- ---- annotations

annotation_acts : (src : List ℕ) (s q : AnnotationState) (a : AnnotationAct) (t : Lexeme) (k : TokenKind) → AnnotationPlanned (annotation_shape s) k a → annotation_act src s a t ≡ Some q → annotation_shape q ≡ annotation_shape_act a
annotation_acts src annotation.Start q a t k marks e = ap (λ q. annotation_shape q) (sym (some_is e))
annotation_acts src annotation.At q a t k (keys h) e = image_shaped (λ i. annotation.Key i) (λ q. annotation_shape q) _ (λ i. refl) (any_node src t) q e
annotation_acts src (annotation.Key i) q a t k opens e = ap (λ q. annotation_shape q) (sym (some_is e))
annotation_acts src (annotation.Open i) q a t k fills e = ap (λ q. annotation_shape q) (sym (some_is e))
annotation_acts src (annotation.Value i x) q a t k closes e = ap (λ q. annotation_shape q) (sym (some_is e))
annotation_acts src (annotation.Closed i x) q a t k h e = elim h [ ]

annotation_finishes : (s : AnnotationState) → ends_with (annotation_ends (annotation_shape s)) ≡ option_image no_tree (annotation_finish s)
annotation_finishes annotation.Start = refl
annotation_finishes annotation.At = refl
annotation_finishes (annotation.Key i) = refl
annotation_finishes (annotation.Open i) = refl
annotation_finishes (annotation.Value i x) = refl
annotation_finishes (annotation.Closed i x) = refl

pub annotations_outlined : (src : List ℕ) → IsOutline src annotation_reader annotation_outline annotation_shape no_tree
annotations_outlined src = record {
  starts = refl;
  plans = λ s k. refl;
  acts = λ s q a t e f. annotation_acts src s q a t t.kind (annotation_planned (annotation_shape s) t.kind a e) f;
  done = annotation_does src;
  ends = λ s. some_tree (annotation_ends (annotation_shape s));
  finishes = annotation_finishes;
}

-- ---- elements of the scope

-- the outlines of the parts
pub record PartsOutlined {N S E A B C L M F : Type 0} (src : List ℕ) (m : PartReaders N S E A B C) (n : PartOutlines L M F A B C) (f : N → L) (g : S → M) (h : E → F) : Type 0 where
  pub name : IsOutline src m.name n.name f no_tree
  pub sum : IsOutline src m.sum n.sum g no_tree
  pub expression : IsOutline src m.expression n.expression h no_tree

element_plans : {N S E A B C L M F : Type 0} (src : List ℕ) (m : PartReaders N S E A B C) (n : PartOutlines L M F A B C) (f : N → L) (g : S → M) (h : E → F) → PartsOutlined src m n f g h → (u : ElementPart N S E) (k : TokenKind) →
    element_plan (reader_plans m) u k ≡ element_plan (outline_plans n) (element_part_shape f g h u) k
element_plans src m n f g h i part.Start k = refl
element_plans src m n f g h i part.Nothing k = refl
element_plans src m n f g h i (part.TypeName s) k = ap (λ o. type_name_plan o (m.name.ends s) k) (i.name.plans s k) ∙ ap (λ b. type_name_plan (n.name.plan (f s) k) b k) (i.name.ends s)
element_plans src m n f g h i (part.EntityType s) k = ap (λ o. entity_type_plan o (m.sum.ends s) k) (i.sum.plans s k) ∙ ap (λ b. entity_type_plan (n.sum.plan (g s) k) b k) (i.sum.ends s)
element_plans src m n f g h i (part.Constraint o s) k = ap (λ o. constraint_plan o) (i.expression.plans s k)

element_acts : {N S E A B C L M F : Type 0} (src : List ℕ) (m : PartReaders N S E A B C) (n : PartOutlines L M F A B C) (f : N → L) (g : S → M) (h : E → F) → PartsOutlined src m n f g h → (s : ElementState N S E) (u : ElementPart N S E) (q : ElementState N S E)
    (k : TokenKind) (a : ElementAct A B C) (t : Lexeme) → t.kind ≡ k → ElementPlanned (reader_plans m) u k a → element_act m src (element_with_part s u) a t ≡ Some q → element_shape f g h q ≡ element_shape_act n (element_part_shape f g h u) a t.kind
element_acts src m n f g h i s u q k a t w (names p) e = image_shaped (λ v. with_variable s v) (λ q. element_shape f g h q) _ (λ v. refl) (any_node src t) q e
element_acts src m n f g h i s u q k a t w colon e = ap (λ q. element_shape f g h q) (sym (some_is e)) ∙ ap (λ u. part.TypeName u) i.name.starts
element_acts src m n f g h i s u q k a t w (behind_variable the_word) e = ap (λ q. element_shape f g h q) (sym (some_is e)) ∙ ap (λ u. part.EntityType u) i.sum.starts
element_acts src m n f g h i s u q k a t w (behind_variable (the_operator {o = o} r)) e = ap (λ q. element_shape f g h q) (sym (some_is e)) ∙ ap (λ u. part.Constraint o u) i.expression.starts
element_acts src m n f g h i s u q k a t w (behind_type v the_word) e = ap (λ q. element_shape f g h q) (sym (some_is e)) ∙ ap (λ u. part.EntityType u) i.sum.starts
element_acts src m n f g h i s u q k a t w (behind_type v (the_operator {o = o} r)) e = ap (λ q. element_shape f g h q) (sym (some_is e)) ∙ ap (λ u. part.Constraint o u) i.expression.starts
element_acts src m n f g h i s u q k a t w (behind_sum {o = o} v r) e = ap (λ q. element_shape f g h q) (sym (some_is e)) ∙ ap (λ u. part.Constraint o u) i.expression.starts
element_acts src m n f g h i s u q k a t w (type_goes {s = p} {a = b} v) e =
    let d = image_of (λ u. element_with_part s u) (option_image (λ q. part.TypeName q) (m.name.act src p b t)) q e in
    let c = image_of (λ q. part.TypeName q) (m.name.act src p b t) d.0 d.1 in
    ap (λ q. element_shape f g h q) (sym d.2) ∙ ap (λ u. element_part_shape f g h u) (sym c.2) ∙ ap (λ u. part.TypeName u) (i.name.acts p c.0 b t (ap (λ k. m.name.plan p k) w ∙ v) c.1)
element_acts src m n f g h i s u q k a t w (sum_goes {s = p} {a = b} v) e =
    let d = image_of (λ u. element_with_part s u) (option_image (λ q. part.EntityType q) (m.sum.act src p b t)) q e in
    let c = image_of (λ q. part.EntityType q) (m.sum.act src p b t) d.0 d.1 in
    ap (λ q. element_shape f g h q) (sym d.2) ∙ ap (λ u. element_part_shape f g h u) (sym c.2) ∙ ap (λ u. part.EntityType u) (i.sum.acts p c.0 b t (ap (λ k. m.sum.plan p k) w ∙ v) c.1)
element_acts src m n f g h i s u q k a t w (expression_goes {o = o} {s = p} {a = b} v) e =
    let d = image_of (λ u. element_with_part s u) (option_image (λ q. part.Constraint o q) (m.expression.act src p b t)) q e in
    let c = image_of (λ q. part.Constraint o q) (m.expression.act src p b t) d.0 d.1 in
    ap (λ q. element_shape f g h q) (sym d.2) ∙ ap (λ u. element_part_shape f g h u) (sym c.2) ∙ ap (λ u. part.Constraint o u) (i.expression.acts p c.0 b t (ap (λ k. m.expression.plan p k) w ∙ v) c.1)

element_ended : {N S E A B C L M F : Type 0} (src : List ℕ) (m : PartReaders N S E A B C) (n : PartOutlines L M F A B C) (f : N → L) (g : S → M) (h : E → F) → PartsOutlined src m n f g h → (u : ElementPart N S E) →
    element_ends (reader_plans m) u ≡ is_some (element_shape_finish n (element_part_shape f g h u))
element_ended src m n f g h i part.Start = refl
element_ended src m n f g h i part.Nothing = refl
element_ended src m n f g h i (part.TypeName s) = i.name.ends s
element_ended src m n f g h i (part.EntityType s) = i.sum.ends s
element_ended src m n f g h i (part.Constraint o s) = i.expression.ends s

element_finishes : {N S E A B C L M F : Type 0} (src : List ℕ) (m : PartReaders N S E A B C) (n : PartOutlines L M F A B C) (f : N → L) (g : S → M) (h : E → F) → PartsOutlined src m n f g h → (s : ElementState N S E) (u : ElementPart N S E) →
    element_shape_finish n (element_part_shape f g h u) ≡ option_image no_tree (finished_element src m s u)
element_finishes src m n f g h i s part.Start = refl
element_finishes src m n f g h i s part.Nothing = refl
element_finishes src m n f g h i s (part.TypeName q) = i.name.finishes q ∙ no_trees _ (m.name.finish src q)
element_finishes src m n f g h i s (part.EntityType q) = i.sum.finishes q ∙ no_trees _ (m.sum.finish src q)
element_finishes src m n f g h i s (part.Constraint o q) = i.expression.finishes q ∙ no_trees _ (m.expression.finish src q)

pub elements_outlined : {N S E A B C L M F : Type 0} (src : List ℕ) (m : PartReaders N S E A B C) (n : PartOutlines L M F A B C) (f : N → L) (g : S → M) (h : E → F) → PartsOutlined src m n f g h →
    IsOutline src (element_reader m) (element_outline n) (element_shape f g h) no_tree
elements_outlined src m n f g h i = record {
  starts = refl;
  plans = λ s k. element_plans src m n f g h i s.part k;
  acts = λ s q a t e v. element_acts src m n f g h i s s.part q t.kind a t refl (element_planned (reader_plans m) s.part t.kind a e) v;
  done = element_does src m record { name = i.name.done; sum = i.sum.done; expression = i.expression.done };
  ends = λ s. element_ended src m n f g h i s.part;
  finishes = λ s. element_finishes src m n f g h i s s.part;
}

-- ---- conditions

condition_plans : {E C F : Type 0} (src : List ℕ) (e : Reader E C (Cell Expr)) (n : Outline F C (Unit {0})) (f : E → F) → IsOutline src e n f no_tree → (u : ConditionPart E) (k : TokenKind) →
    condition_plan (λ k. e.plan e.start k) e.plan e.ends u k ≡ condition_plan (λ k. n.plan n.start k) n.plan (λ u. is_some (n.finish u)) (condition_part_shape f u) k
condition_plans src e n f i inner.Start k = refl
condition_plans src e n f i inner.Word k = refl
condition_plans src e n f i inner.Opened k = ap (λ o. opened_plan o k) (i.plans e.start k ∙ ap (λ u. n.plan u k) i.starts)
condition_plans src e n f i (inner.Body s) k = ap (λ o. body_plan o (e.ends s) k) (i.plans s k) ∙ ap (λ b. body_plan (n.plan (f s) k) b k) (i.ends s)
condition_plans src e n f i (inner.Closed x) k = refl

condition_acts : {E C F : Type 0} (src : List ℕ) (e : Reader E C (Cell Expr)) (n : Outline F C (Unit {0})) (f : E → F) → IsOutline src e n f no_tree → (v : Cell Ident) (u : ConditionPart E) (q : ConditionState E) (k : TokenKind) (a : ConditionAct C) (t : Lexeme) → t.kind ≡ k →
    ConditionPlanned e u k a → condition_act e src (condition_state v u) a t ≡ Some q → condition_shape f q ≡ condition_shape_act n (condition_part_shape f u) a t.kind
condition_acts src e n f i v u q k a t w (words h) d = image_shaped (λ x. condition_state x inner.Word) (λ q. condition_shape f q) _ (λ x. refl) (any_node src t) q d
condition_acts src e n f i v u q k a t w brace d = ap (λ q. condition_shape f q) (sym (some_is d))
condition_acts src e n f i v u q k a t w (first_goes {a = b} h) d =
    let c = image_of (λ q. condition_state v (inner.Body q)) (e.act src e.start b t) q d in
    ap (λ q. condition_shape f q) (sym c.2) ∙ ap (λ u. inner.Body u) (i.acts e.start c.0 b t (ap (λ k. e.plan e.start k) w ∙ h) c.1 ∙ ap (λ u. n.act u b t.kind) i.starts)
condition_acts src e n f i v u q k a t w empty d = ap (λ q. condition_shape f q) (sym (some_is d))
condition_acts src e n f i v u q k a t w (body_goes {s = p} {a = b} h) d =
    let c = image_of (λ q. condition_state v (inner.Body q)) (e.act src p b t) q d in
    ap (λ q. condition_shape f q) (sym c.2) ∙ ap (λ u. inner.Body u) (i.acts p c.0 b t (ap (λ k. e.plan p k) w ∙ h) c.1)
condition_acts src e n f i v u q k a t w (body_ends h) d = ap (λ q. condition_shape f q) (sym (some_is d))

condition_ended : {E F : Type 0} (f : E → F) (u : ConditionPart E) → condition_ends u ≡ is_some (ends_with (condition_ends (condition_part_shape f u)))
condition_ended f inner.Start = refl
condition_ended f inner.Word = refl
condition_ended f inner.Opened = refl
condition_ended f (inner.Body s) = refl
condition_ended f (inner.Closed x) = refl

condition_finishes : {E F : Type 0} (f : E → F) (v : Cell Ident) (u : ConditionPart E) → ends_with (condition_ends (condition_part_shape f u)) ≡ option_image no_tree (finished_condition v u)
condition_finishes f v inner.Start = refl
condition_finishes f v inner.Word = refl
condition_finishes f v inner.Opened = refl
condition_finishes f v (inner.Body s) = refl
condition_finishes f v (inner.Closed x) = refl

pub conditions_outlined : {E C F : Type 0} (src : List ℕ) (e : Reader E C (Cell Expr)) (n : Outline F C (Unit {0})) (f : E → F) → IsOutline src e n f no_tree → IsOutline src (condition_reader e) (condition_outline n) (condition_shape f) no_tree
conditions_outlined src e n f i = record {
  starts = refl;
  plans = λ s k. condition_plans src e n f i s.part k;
  acts = λ s q a t w d. condition_acts src e n f i s.word s.part q t.kind a t refl (condition_planned e s.part t.kind a w) d;
  done = condition_does src e i.done;
  ends = λ s. condition_ended f s.part;
  finishes = λ s. condition_finishes f s.word s.part;
}

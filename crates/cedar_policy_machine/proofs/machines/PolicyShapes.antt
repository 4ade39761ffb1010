-- The outline of a policy, from those of its parts.
use Rattle.std.specs.Prelude.{cond}
use Rattle.std.proofs.Common.{◌≡◌, ℕ, List, Option, Some, None, Bool, true, false, refl, sym, ◌∙◌, ap, subst}
use Rattle.cedar_lexer.specs.Token.{Lexeme}
use Rattle.cedar_lexer.specs.declared.token.TokenKind.{TokenKind}
use Rattle.cedar_lexer.specs.declared.token.TokenKind.TheVariants as kind
use Rattle.cedar_syntax.specs.declared.cst.Ident.{Ident}
use Rattle.cedar_syntax.specs.declared.cst.Annotation.{Annotation}
use Rattle.cedar_syntax.specs.declared.cst.VariableDef.{VariableDef}
use Rattle.cedar_syntax.specs.declared.cst.Cond.{Cond}
use Rattle.cedar_policy_machine.specs.declared.policy.Section.{Section}
use Rattle.cedar_policy_machine.specs.declared.policy.Section.TheVariants as section
use Rattle.cedar_policy_machine.specs.declared.policy.PolicyAct.{PolicyAct}
use Rattle.cedar_policy_machine.specs.declared.policy.PolicyAct.TheVariants as act
use Rattle.cedar_policy_machine.specs.declared.sequence.Sequence.{Sequence}
use Rattle.cedar_syntax.specs.tokens.Tokens.{any_of, fits}
use Rattle.cedar_syntax.specs.trees.Trees.{Cell}
use Rattle.cedar_grammar.specs.machines.Machine.{is_some, option_image, IsDone, no_tree}
use Rattle.cedar_policy_machine.specs.machines.Annotation.{any_node}
use Rattle.cedar_policy_machine.specs.machines.Policy.{is_word, PolicyOf, Sections, annotations_plan, open_plan, close_plan, scope_plan, shut_plan, conditions_plan, policy_plan, with_annotations, with_scope, with_conditions, behind_effect, behind_scope, behind_conditions, effect_read, policy_act, policy_ends, finished_policy, policy_reader}
use Rattle.cedar_policy_machine.specs.machines.PolicyShapes.{section_shape, policy_shape, SectionOutlines, policy_shape_plan, policy_shape_act, policy_shape_finish, policy_outline, in_head, has_effect, in_parens, behind_parens}
use Rattle.cedar_grammar.specs.machines.SingleTokens.{token_node}
use Rattle.cedar_grammar.proofs.machines.Laws.{some_is, false_true}
use Rattle.cedar_grammar.proofs.machines.Rightly.{EndsRightly, image_of, image_some, image_done, ends_by}
use Rattle.cedar_policy_machine.proofs.machines.SequenceShapes.{IsOutlineBy}
use Rattle.cedar_grammar.proofs.machines.SingleTokens.{same_any}

-- a word has a node
pub word_there : (src : List ℕ) (t : Lexeme) → is_word t.kind ≡ is_some (any_node src t)
word_there src t = same_any t.kind t.text ∙ sym (image_some (λ i. token_node src t i) (any_of t.kind t.text))

-- ---- what is planned in a section

-- what the act asks of the section, and of the part that is begun
abbrev pub IsSectionPlan : {A V C X Y Z : Type 0} → Sections A V C X Y Z → Section → PolicyOf A V C → TokenKind → PolicyAct X Y Z → Type 0
IsSectionPlan m n s k (act.Annotation a) = (n ≡ section.Annotations) × (m.annotations.plan s.annotations k ≡ Some a)
IsSectionPlan m n s k act.Effect = (n ≡ section.Annotations) × (m.annotations.ends s.annotations ≡ true) × (is_word k ≡ true)
IsSectionPlan m n s k act.Open = (n ≡ section.Effect) × (k ≡ kind.OpenParen)
IsSectionPlan m n s k (act.Element a) = (n ≡ section.Scope) × (m.scope.plan s.scope k ≡ Some a)
IsSectionPlan m n s k act.Close = (n ≡ section.Scope) × (m.scope.ends s.scope ≡ true) × (k ≡ kind.CloseParen)
IsSectionPlan m n s k (act.Condition a) = (n ≡ section.Conditions) × (m.conditions.plan s.conditions k ≡ Some a)
IsSectionPlan m n s k act.Shut = (n ≡ section.Conditions) × (m.conditions.ends s.conditions ≡ true) × (k ≡ kind.Semicolon)

annotation_is : {X Y Z : Type 0} {a c : X} → ◌≡◌ {A = Option (PolicyAct X Y Z)} (Some (act.Annotation c)) (Some (act.Annotation a)) → Some c ≡ Some a
annotation_is h = cc

element_is : {X Y Z : Type 0} {a c : Y} → ◌≡◌ {A = Option (PolicyAct X Y Z)} (Some (act.Element c)) (Some (act.Element a)) → Some c ≡ Some a
element_is h = cc

condition_is : {X Y Z : Type 0} {a c : Z} → ◌≡◌ {A = Option (PolicyAct X Y Z)} (Some (act.Condition c)) (Some (act.Condition a)) → Some c ≡ Some a
condition_is h = cc

word_planned : {X Y Z : Type 0} (b : Bool) (a : PolicyAct X Y Z) → cond b (Some act.Effect) None ≡ Some a → (b ≡ true) × (act.Effect ≡ a)
word_planned true a h = (refl, some_is h)
word_planned false a h = absurd (cc)

in_annotations : {A V C X Y Z : Type 0} (m : Sections A V C X Y Z) (s : PolicyOf A V C) (k : TokenKind) (o : Option X) (b : Bool) (a : PolicyAct X Y Z) → m.annotations.plan s.annotations k ≡ o → m.annotations.ends s.annotations ≡ b →
    annotations_plan o b k ≡ Some a → IsSectionPlan m section.Annotations s k a
in_annotations m s k (Some c) b (act.Annotation a) e i h = (refl, e ∙ annotation_is h)
in_annotations m s k (Some c) b act.Effect e i h = absurd (cc)
in_annotations m s k (Some c) b act.Open e i h = absurd (cc)
in_annotations m s k (Some c) b (act.Element a) e i h = absurd (cc)
in_annotations m s k (Some c) b act.Close e i h = absurd (cc)
in_annotations m s k (Some c) b (act.Condition a) e i h = absurd (cc)
in_annotations m s k (Some c) b act.Shut e i h = absurd (cc)
in_annotations m s k None true a e i h = let w = word_planned (is_word k) a h in subst (λ a. IsSectionPlan m section.Annotations s k a) w.1 (refl, i, w.0)
in_annotations m s k None false a e i h = absurd (cc)

open_planned : {X Y Z : Type 0} (k : TokenKind) (a : PolicyAct X Y Z) → open_plan k ≡ Some a → (k ≡ kind.OpenParen) × (act.Open ≡ a)
open_planned kind.OpenParen a h = (refl, some_is h)
open_planned _ a h = absurd (cc)

close_planned : {X Y Z : Type 0} (k : TokenKind) (a : PolicyAct X Y Z) → close_plan k ≡ Some a → (k ≡ kind.CloseParen) × (act.Close ≡ a)
close_planned kind.CloseParen a h = (refl, some_is h)
close_planned _ a h = absurd (cc)

shut_planned : {X Y Z : Type 0} (k : TokenKind) (a : PolicyAct X Y Z) → shut_plan k ≡ Some a → (k ≡ kind.Semicolon) × (act.Shut ≡ a)
shut_planned kind.Semicolon a h = (refl, some_is h)
shut_planned _ a h = absurd (cc)

in_scope : {A V C X Y Z : Type 0} (m : Sections A V C X Y Z) (s : PolicyOf A V C) (k : TokenKind) (o : Option Y) (b : Bool) (a : PolicyAct X Y Z) → m.scope.plan s.scope k ≡ o → m.scope.ends s.scope ≡ b →
    scope_plan o b k ≡ Some a → IsSectionPlan m section.Scope s k a
in_scope m s k (Some c) b (act.Element a) e i h = (refl, e ∙ element_is h)
in_scope m s k (Some c) b (act.Annotation a) e i h = absurd (cc)
in_scope m s k (Some c) b act.Effect e i h = absurd (cc)
in_scope m s k (Some c) b act.Open e i h = absurd (cc)
in_scope m s k (Some c) b act.Close e i h = absurd (cc)
in_scope m s k (Some c) b (act.Condition a) e i h = absurd (cc)
in_scope m s k (Some c) b act.Shut e i h = absurd (cc)
in_scope m s k None true a e i h = let w = close_planned k a h in subst (λ a. IsSectionPlan m section.Scope s k a) w.1 (refl, i, w.0)
in_scope m s k None false a e i h = absurd (cc)

in_conditions : {A V C X Y Z : Type 0} (m : Sections A V C X Y Z) (s : PolicyOf A V C) (k : TokenKind) (o : Option Z) (b : Bool) (a : PolicyAct X Y Z) → m.conditions.plan s.conditions k ≡ o → m.conditions.ends s.conditions ≡ b →
    conditions_plan o b k ≡ Some a → IsSectionPlan m section.Conditions s k a
in_conditions m s k (Some c) b (act.Condition a) e i h = (refl, e ∙ condition_is h)
in_conditions m s k (Some c) b (act.Annotation a) e i h = absurd (cc)
in_conditions m s k (Some c) b act.Effect e i h = absurd (cc)
in_conditions m s k (Some c) b act.Open e i h = absurd (cc)
in_conditions m s k (Some c) b (act.Element a) e i h = absurd (cc)
in_conditions m s k (Some c) b act.Close e i h = absurd (cc)
in_conditions m s k (Some c) b act.Shut e i h = absurd (cc)
in_conditions m s k None true a e i h = let w = shut_planned k a h in subst (λ a. IsSectionPlan m section.Conditions s k a) w.1 (refl, i, w.0)
in_conditions m s k None false a e i h = absurd (cc)

pub section_planned : {A V C X Y Z : Type 0} (m : Sections A V C X Y Z) (n : Section) (s : PolicyOf A V C) (k : TokenKind) (a : PolicyAct X Y Z) → policy_plan m n s k ≡ Some a → IsSectionPlan m n s k a
section_planned m section.Annotations s k a h = in_annotations m s k (m.annotations.plan s.annotations k) (m.annotations.ends s.annotations) a refl refl h
section_planned m section.Effect s k a h = let w = open_planned k a h in subst (λ a. IsSectionPlan m section.Effect s k a) w.1 (refl, w.0)
section_planned m section.Scope s k a h = in_scope m s k (m.scope.plan s.scope k) (m.scope.ends s.scope) a refl refl h
section_planned m section.Conditions s k a h = in_conditions m s k (m.conditions.plan s.conditions k) (m.conditions.ends s.conditions) a refl refl h
section_planned m section.Closed s k a h = absurd (cc)

-- ---- the outline

-- the outlines of the parts
pub record SectionsOutlined {A V C X Y Z L M F : Type 0} (src : List ℕ) (m : Sections A V C X Y Z) (n : SectionOutlines L M F X Y Z) (f : Sequence A (Cell Annotation) → L) (g : Sequence V (Cell VariableDef) → M) (h : Sequence C (Cell Cond) → F) : Type 0 where
  pub annotations : IsOutlineBy src m.annotations n.annotations f
  pub scope : IsOutlineBy src m.scope n.scope g
  pub conditions : IsOutlineBy src m.conditions n.conditions h

policy_plans : {A V C X Y Z L M F : Type 0} (src : List ℕ) (m : Sections A V C X Y Z) (n : SectionOutlines L M F X Y Z) (f : Sequence A (Cell Annotation) → L) (g : Sequence V (Cell VariableDef) → M) (h : Sequence C (Cell Cond) → F) → SectionsOutlined src m n f g h →
    (c : Section) (s : PolicyOf A V C) (k : TokenKind) → policy_plan m c s k ≡ policy_shape_plan n (section_shape f g h c s) k
policy_plans src m n f g h i section.Annotations s k =
    ap (λ o. annotations_plan o (m.annotations.ends s.annotations) k) (i.annotations.plans s.annotations k) ∙ ap (λ b. annotations_plan (n.annotations.plan (f s.annotations) k) b k) (i.annotations.ends s.annotations)
policy_plans src m n f g h i section.Effect s k = refl
policy_plans src m n f g h i section.Scope s k =
    ap (λ o. scope_plan o (m.scope.ends s.scope) k) (i.scope.plans s.scope k) ∙ ap (λ b. scope_plan (n.scope.plan (g s.scope) k) b k) (i.scope.ends s.scope)
policy_plans src m n f g h i section.Conditions s k =
    ap (λ o. conditions_plan o (m.conditions.ends s.conditions) k) (i.conditions.plans s.conditions k) ∙ ap (λ b. conditions_plan (n.conditions.plan (h s.conditions) k) b k) (i.conditions.ends s.conditions)
policy_plans src m n f g h i section.Closed s k = refl

-- in the section where it is planned, an act makes of the shape what the outline says

effect_acts : {A V C L M F : Type 0} (f : Sequence A (Cell Annotation) → L) (g : Sequence V (Cell VariableDef) → M) (h : Sequence C (Cell Cond) → F) (s q : PolicyOf A V C) (o : Option (List (Cell Annotation))) (w : Option (Cell Ident)) → effect_read s o w ≡ Some q →
    policy_shape f g h q ≡ has_effect (g s.scope) (h s.conditions)
effect_acts f g h s q None w e = absurd (cc)
effect_acts f g h s q (Some xs) w e = let r = image_of (λ i. behind_effect s xs i) w q e in ap (λ q. policy_shape f g h q) (sym r.2)

policy_acts : {A V C X Y Z L M F : Type 0} (src : List ℕ) (m : Sections A V C X Y Z) (n : SectionOutlines L M F X Y Z) (f : Sequence A (Cell Annotation) → L) (g : Sequence V (Cell VariableDef) → M) (h : Sequence C (Cell Cond) → F) → SectionsOutlined src m n f g h →
    (s q : PolicyOf A V C) (a : PolicyAct X Y Z) (t : Lexeme) → IsSectionPlan m s.section s t.kind a → policy_act m src s a t ≡ Some q → policy_shape f g h q ≡ policy_shape_act n (policy_shape f g h s) a t.kind
policy_acts src m n f g h i s q (act.Annotation a) t p e =
    let w = image_of (λ q. with_annotations s q) (m.annotations.act src s.annotations a t) q e in
    ap (λ q. policy_shape f g h q) (sym w.2) ∙ ap (λ c. section_shape f g h c (with_annotations s w.0)) p.0
    ∙ ap (λ u. in_head u (g s.scope) (h s.conditions)) (i.annotations.acts s.annotations w.0 a t p.1 w.1) ∙ ap (λ c. policy_shape_act n (section_shape f g h c s) (act.Annotation a) t.kind) (sym p.0)
policy_acts src m n f g h i s q act.Effect t p e =
    effect_acts f g h s q (m.annotations.finish src s.annotations) (any_node src t) e ∙ ap (λ c. policy_shape_act n (section_shape f g h c s) act.Effect t.kind) (sym p.0)
policy_acts src m n f g h i s q act.Open t p e =
    ap (λ q. policy_shape f g h q) (sym (some_is e)) ∙ ap (λ c. policy_shape_act n (section_shape f g h c s) act.Open t.kind) (sym p.0)
policy_acts src m n f g h i s q (act.Element a) t p e =
    let w = image_of (λ q. with_scope s q) (m.scope.act src s.scope a t) q e in
    ap (λ q. policy_shape f g h q) (sym w.2) ∙ ap (λ c. section_shape f g h c (with_scope s w.0)) p.0
    ∙ ap (λ u. in_parens u (h s.conditions)) (i.scope.acts s.scope w.0 a t p.1 w.1) ∙ ap (λ c. policy_shape_act n (section_shape f g h c s) (act.Element a) t.kind) (sym p.0)
policy_acts src m n f g h i s q act.Close t p e =
    let w = image_of (λ ys. behind_scope s ys) (m.scope.finish src s.scope) q e in
    ap (λ q. policy_shape f g h q) (sym w.2) ∙ ap (λ c. policy_shape_act n (section_shape f g h c s) act.Close t.kind) (sym p.0)
policy_acts src m n f g h i s q (act.Condition a) t p e =
    let w = image_of (λ q. with_conditions s q) (m.conditions.act src s.conditions a t) q e in
    ap (λ q. policy_shape f g h q) (sym w.2) ∙ ap (λ c. section_shape f g h c (with_conditions s w.0)) p.0
    ∙ ap (λ u. behind_parens u) (i.conditions.acts s.conditions w.0 a t p.1 w.1) ∙ ap (λ c. policy_shape_act n (section_shape f g h c s) (act.Condition a) t.kind) (sym p.0)
policy_acts src m n f g h i s q act.Shut t p e =
    let w = image_of (λ zs. behind_conditions s zs) (m.conditions.finish src s.conditions) q e in
    ap (λ q. policy_shape f g h q) (sym w.2)

-- each is done, but for numbers that don't fit

-- a kind other than a number's
not_number : {k : TokenKind} (c : TokenKind) → k ≡ c → (c ≡ kind.Number → ⊥) → (text : List ℕ) → (k ≡ kind.Number) → fits text ≡ true
not_number c e h text g = absurd (h (sym e ∙ g))

effect_done : {A V C : Type 0} (t : Lexeme) (s : PolicyOf A V C) (o : Option (List (Cell Annotation))) (b : Bool) (w : Option (Cell Ident)) (c : Bool) → b ≡ is_some o → b ≡ true → c ≡ is_some w → c ≡ true → ((t.kind ≡ kind.Number) → fits t.text ≡ true) →
    IsDone t (effect_read s o w)
effect_done t s (Some xs) b (Some i) c e h k l f = f
effect_done t s (Some xs) b None c e h k l f = absurd (cc)
effect_done t s None b w c e h k l f = absurd (cc)

end_done : {S T : Type 0} (f : S → T) (t : Lexeme) (o : Option S) (b : Bool) → b ≡ is_some o → b ≡ true → ((t.kind ≡ kind.Number) → fits t.text ≡ true) → IsDone t (option_image f o)
end_done f t (Some x) b e h g = g
end_done f t None b e h g = absurd (cc)

word_is_none : (t : Lexeme) → is_word t.kind ≡ true → (t.kind ≡ kind.Number) → fits t.text ≡ true
word_is_none t h e = absurd (false_true (ap (λ k. is_word k) e) h)

policy_done : {A V C X Y Z L M F : Type 0} (src : List ℕ) (m : Sections A V C X Y Z) (n : SectionOutlines L M F X Y Z) (f : Sequence A (Cell Annotation) → L) (g : Sequence V (Cell VariableDef) → M) (h : Sequence C (Cell Cond) → F) → SectionsOutlined src m n f g h →
    (s : PolicyOf A V C) (a : PolicyAct X Y Z) (t : Lexeme) → IsSectionPlan m s.section s t.kind a → IsDone t (policy_act m src s a t)
policy_done src m n f g h i s (act.Annotation a) t p = image_done (λ q. with_annotations s q) t (m.annotations.act src s.annotations a t) (i.annotations.done s.annotations a t p.1)
policy_done src m n f g h i s act.Effect t p =
    effect_done t s (m.annotations.finish src s.annotations) (m.annotations.ends s.annotations) (any_node src t) (is_word t.kind) (ends_by i.annotations s.annotations) p.1 (word_there src t) p.2 (word_is_none t p.2)
policy_done src m n f g h i s act.Open t p = not_number kind.OpenParen p.1 (λ e. cc) t.text
policy_done src m n f g h i s (act.Element a) t p = image_done (λ q. with_scope s q) t (m.scope.act src s.scope a t) (i.scope.done s.scope a t p.1)
policy_done src m n f g h i s act.Close t p =
    end_done (λ ys. behind_scope s ys) t (m.scope.finish src s.scope) (m.scope.ends s.scope) (ends_by i.scope s.scope) p.1 (not_number kind.CloseParen p.2 (λ e. cc) t.text)
policy_done src m n f g h i s (act.Condition a) t p = image_done (λ q. with_conditions s q) t (m.conditions.act src s.conditions a t) (i.conditions.done s.conditions a t p.1)
policy_done src m n f g h i s act.Shut t p =
    end_done (λ zs. behind_conditions s zs) t (m.conditions.finish src s.conditions) (m.conditions.ends s.conditions) (ends_by i.conditions s.conditions) p.1 (not_number kind.Semicolon p.2 (λ e. cc) t.text)

policy_ends_shaped : {A V C L M F : Type 0} (f : Sequence A (Cell Annotation) → L) (g : Sequence V (Cell VariableDef) → M) (h : Sequence C (Cell Cond) → F) (c : Section) (s : PolicyOf A V C) → policy_ends c ≡ is_some (policy_shape_finish (section_shape f g h c s))
policy_ends_shaped f g h section.Annotations s = refl
policy_ends_shaped f g h section.Effect s = refl
policy_ends_shaped f g h section.Scope s = refl
policy_ends_shaped f g h section.Conditions s = refl
policy_ends_shaped f g h section.Closed s = refl

policy_finishes : {A V C L M F : Type 0} (f : Sequence A (Cell Annotation) → L) (g : Sequence V (Cell VariableDef) → M) (h : Sequence C (Cell Cond) → F) (c : Section) (s : PolicyOf A V C) → policy_shape_finish (section_shape f g h c s) ≡ option_image no_tree (finished_policy c s)
policy_finishes f g h section.Annotations s = refl
policy_finishes f g h section.Effect s = refl
policy_finishes f g h section.Scope s = refl
policy_finishes f g h section.Conditions s = refl
policy_finishes f g h section.Closed s = refl

pub policy_outlined : {A V C X Y Z L M F : Type 0} (src : List ℕ) (m : Sections A V C X Y Z) (n : SectionOutlines L M F X Y Z) (f : Sequence A (Cell Annotation) → L) (g : Sequence V (Cell VariableDef) → M) (h : Sequence C (Cell Cond) → F) → SectionsOutlined src m n f g h →
    IsOutlineBy src (policy_reader m) (policy_outline n) (policy_shape f g h)
policy_outlined src m n f g h i = record {
  starts = ap (λ u. in_head u (g m.scope.start) (h m.conditions.start)) i.annotations.starts ∙ (ap (λ v. in_head n.annotations.start v (h m.conditions.start)) i.scope.starts ∙ ap (λ c. in_head n.annotations.start n.scope.start c) i.conditions.starts);
  plans = λ s k. policy_plans src m n f g h i s.section s k;
  acts = λ s q a t p e. policy_acts src m n f g h i s q a t (section_planned m s.section s t.kind a p) e;
  done = λ s a t p. policy_done src m n f g h i s a t (section_planned m s.section s t.kind a p);
  ends = λ s. policy_ends_shaped f g h s.section s;
  finishes = λ s. policy_finishes f g h s.section s;
}

pub policy_right : {A V C X Y Z : Type 0} (src : List ℕ) (m : Sections A V C X Y Z) → EndsRightly src (policy_reader m)
policy_right {A = A} {V = V} {C = C} src m s = go s.section s
  where
    go : (c : Section) (s : PolicyOf A V C) → policy_ends c ≡ is_some (finished_policy c s)
    go section.Annotations s = refl
    go section.Effect s = refl
    go section.Scope s = refl
    go section.Conditions s = refl
    go section.Closed s = refl

-- What is planned with a token of an element of the scope, as cases, for any plans of its parts.
use Rattle.std.proofs.Common.{◌≡◌, ℕ, List, [], Option, Some, None, Bool, true, false, refl, sym, ◌∙◌, ap, subst}
use Rattle.cedar_lexer.specs.Token.{Lexeme}
use Rattle.cedar_lexer.specs.declared.token.TokenKind.{TokenKind}
use Rattle.cedar_lexer.specs.declared.token.TokenKind.TheVariants as kind
use Rattle.cedar_syntax.specs.declared.cst.RelOp.{RelOp}
use Rattle.cedar_syntax.specs.declared.cst.Ident.{Ident}
use Rattle.cedar_policy_machine.specs.declared.scope.ElementState.{ElementState}
use Rattle.cedar_policy_machine.specs.declared.scope.ElementPart.{ElementPart}
use Rattle.cedar_policy_machine.specs.declared.scope.ElementPart.TheVariants as part
use Rattle.cedar_policy_machine.specs.declared.scope.ElementAct.{ElementAct}
use Rattle.cedar_policy_machine.specs.declared.scope.ElementAct.TheVariants as act
use Rattle.cedar_syntax.specs.tokens.Tokens.{any_of}
use Rattle.cedar_syntax.specs.trees.Trees.{Cell}
use Rattle.cedar_grammar.specs.grammar.LooseExpressions.{ReadsRelOp}
use Rattle.cedar_grammar.specs.machines.Machine.{option_image}
use Rattle.cedar_grammar.specs.machines.Marks.{relation_of}
use Rattle.cedar_grammar.specs.machines.SingleTokens.{token_node, if_any}
use Rattle.cedar_policy_machine.specs.machines.Scope.{PartReaders, compare_plan, narrow_plan, bare_plan, type_name_plan, entity_type_plan, constraint_plan, PartPlans, reader_plans, element_plan, element_act, with_variable}
use Rattle.cedar_grammar.proofs.machines.Laws.{some_is}
use Rattle.cedar_grammar.proofs.machines.Marked.{IsRelated, related_by, related}
use Rattle.cedar_policy_machine.proofs.machines.Annotation.{word_made}
use Rattle.cedar_grammar.proofs.machines.SingleTokens.{planned_any, any_case}

-- behind a variable or a type name
pub data NarrowPlanned {A B C : Type 0} : TokenKind → ElementAct A B C → Type 0 where
  the_word : NarrowPlanned kind.Is act.Is
  the_operator : {k : TokenKind} {o : RelOp} → ReadsRelOp k o → NarrowPlanned k (act.Compare o)

pub data ElementPlanned {N S E A B C : Type 0} (p : PartPlans N S E A B C) : ElementPart N S E → TokenKind → ElementAct A B C → Type 0 where
  names : {k : TokenKind} → if_any {A = ElementAct A B C} k act.Variable ≡ Some act.Variable → ElementPlanned p part.Start k act.Variable
  colon : ElementPlanned p part.Nothing kind.Colon act.Colon
  behind_variable : {k : TokenKind} {a : ElementAct A B C} → NarrowPlanned k a → ElementPlanned p part.Nothing k a
  type_goes : {k : TokenKind} {s : N} {a : A} → p.name s k ≡ Some a → ElementPlanned p (part.TypeName s) k (act.TypeName a)
  behind_type : {k : TokenKind} {s : N} {a : ElementAct A B C} → p.name_ends s ≡ true → NarrowPlanned k a → ElementPlanned p (part.TypeName s) k a
  sum_goes : {k : TokenKind} {s : S} {a : B} → p.sum s k ≡ Some a → ElementPlanned p (part.EntityType s) k (act.EntityType a)
  behind_sum : {k : TokenKind} {s : S} {o : RelOp} → p.sum_ends s ≡ true → ReadsRelOp k o → ElementPlanned p (part.EntityType s) k (act.Compare o)
  expression_goes : {k : TokenKind} {o : RelOp} {s : E} {a : C} → p.expression s k ≡ Some a → ElementPlanned p (part.Constraint o s) k (act.Constraint a)

compare_planned : {A B C : Type 0} (P : ElementAct A B C → Type 0) (k : TokenKind) (a : ElementAct A B C) → ((o : RelOp) → ReadsRelOp k o → P (act.Compare o)) → compare_plan k ≡ Some a → P a
compare_planned P k a h e = go (relation_of k) (related k) e
  where
    go : (o : Option RelOp) → IsRelated o k → option_image (λ o. act.Compare o) o ≡ Some a → P a
    go (Some o) (related_by r) e = subst P (some_is e) (h o r)
    go None r e = absurd (cc)

narrow_planned : {A B C : Type 0} (k : TokenKind) (a : ElementAct A B C) → narrow_plan k ≡ Some a → NarrowPlanned k a
narrow_planned kind.Is a e = subst (λ a. NarrowPlanned kind.Is a) (some_is e) the_word
narrow_planned k a e = compare_planned (λ a. NarrowPlanned k a) k a (λ o r. the_operator r) e

bare_planned : {N S E A B C : Type 0} (p : PartPlans N S E A B C) (k : TokenKind) (a : ElementAct A B C) → bare_plan k ≡ Some a → ElementPlanned p part.Nothing k a
bare_planned p kind.Colon a e = subst (λ a. ElementPlanned p part.Nothing kind.Colon a) (some_is e) colon
bare_planned p k a e = behind_variable (narrow_planned k a e)

type_planned : {N S E A B C : Type 0} (p : PartPlans N S E A B C) (s : N) (k : TokenKind) (a : ElementAct A B C) (o : Option A) (b : Bool) → p.name s k ≡ o → p.name_ends s ≡ b → type_name_plan o b k ≡ Some a →
    ElementPlanned p (part.TypeName s) k a
type_planned p s k a (Some c) b f g e = subst (λ a. ElementPlanned p (part.TypeName s) k a) (some_is e) (type_goes f)
type_planned p s k a None true f g e = behind_type g (narrow_planned k a e)
type_planned p s k a None false f g e = absurd (cc)

sum_planned : {N S E A B C : Type 0} (p : PartPlans N S E A B C) (s : S) (k : TokenKind) (a : ElementAct A B C) (o : Option B) (b : Bool) → p.sum s k ≡ o → p.sum_ends s ≡ b → entity_type_plan o b k ≡ Some a →
    ElementPlanned p (part.EntityType s) k a
sum_planned p s k a (Some c) b f g e = subst (λ a. ElementPlanned p (part.EntityType s) k a) (some_is e) (sum_goes f)
sum_planned p s k a None true f g e = compare_planned (λ a. ElementPlanned p (part.EntityType s) k a) k a (λ o r. behind_sum g r) e
sum_planned p s k a None false f g e = absurd (cc)

constraint_planned : {N S E A B C : Type 0} (p : PartPlans N S E A B C) (r : RelOp) (s : E) (k : TokenKind) (a : ElementAct A B C) (o : Option C) → p.expression s k ≡ o → constraint_plan o ≡ Some a → ElementPlanned p (part.Constraint r s) k a
constraint_planned p r s k a (Some c) f e = subst (λ a. ElementPlanned p (part.Constraint r s) k a) (some_is e) (expression_goes f)
constraint_planned p r s k a None f e = absurd (cc)

pub element_planned : {N S E A B C : Type 0} (p : PartPlans N S E A B C) (u : ElementPart N S E) (k : TokenKind) (a : ElementAct A B C) → element_plan p u k ≡ Some a → ElementPlanned p u k a
element_planned p part.Start k a e = any_case (λ a. ElementPlanned p part.Start k a) k [] act.Variable a e (λ i g. names (planned_any k [] act.Variable i g))
element_planned p part.Nothing k a e = bare_planned p k a e
element_planned p (part.TypeName s) k a e = type_planned p s k a (p.name s k) (p.name_ends s) refl refl e
element_planned p (part.EntityType s) k a e = sum_planned p s k a (p.sum s k) (p.sum_ends s) refl refl e
element_planned p (part.Constraint o s) k a e = constraint_planned p o s k a (p.expression s k) refl e

-- what the variable makes

names_planned : {N S E A B C : Type 0} (p : PartPlans N S E A B C) (u : ElementPart N S E) (k : TokenKind) → ElementPlanned p u k act.Variable → if_any {A = ElementAct A B C} k act.Variable ≡ Some act.Variable
names_planned p u k (names f) = f
names_planned p u k (behind_variable f) = elim f [ ]
names_planned p u k (behind_type g f) = elim f [ ]

pub variable_made : {N S E A B C : Type 0} (src : List ℕ) (m : PartReaders N S E A B C) (s : ElementState N S E) (a : ElementAct A B C) (t : Lexeme) (x : Cell Ident) → a ≡ act.Variable → element_plan (reader_plans m) s.part t.kind ≡ Some a →
    ((i : Ident) → any_of t.kind t.text ≡ Some i → x ≡ token_node src t i) → Some (with_variable s x) ≡ element_act m src s a t
variable_made {A = A} {B = B} {C = C} src m s a t x e p h =
    let f : if_any {A = ElementAct A B C} t.kind act.Variable ≡ Some act.Variable = names_planned (reader_plans m) s.part t.kind (element_planned (reader_plans m) s.part t.kind act.Variable (p ∙ ap (λ a. Some a) e)) in
    subst (λ a. Some (with_variable s x) ≡ element_act m src s a t) (sym e) (ap (λ o. option_image (λ i. with_variable s i) o) (sym (word_made src t act.Variable act.Variable x f h)))

-- The machine of an element of the scope is a parser, since those of its parts are.
-- Nothing here knows which machines those are.
use Rattle.std.proofs.Common.{◌≡◌, ℕ, List, [], ◌∷◌, ◌++◌, Option, Some, None, refl, sym, ◌∙◌, ap, subst, append_assoc, IfSome}
use Rattle.std.proofs.lemmas.List.{append-nil}
use Rattle.cedar_lexer.specs.Token.{Lexeme}
use Rattle.cedar_lexer.specs.declared.token.TokenKind.{TokenKind}
use Rattle.cedar_lexer.specs.declared.token.TokenKind.TheVariants as kind
use Rattle.cedar_syntax.specs.declared.cst.RelOp.{RelOp}
use Rattle.cedar_syntax.specs.declared.cst.Expr.{Expr}
use Rattle.cedar_syntax.specs.declared.cst.Add.{Add}
use Rattle.cedar_syntax.specs.declared.cst.Ident.{Ident}
use Rattle.cedar_syntax.specs.declared.cst.Name.{Name}
use Rattle.cedar_syntax.specs.declared.cst.VariableDef.{VariableDef}
use Rattle.cedar_policy_machine.specs.declared.scope.ElementState.{ElementState}
use Rattle.cedar_policy_machine.specs.declared.scope.ElementPart.{ElementPart}
use Rattle.cedar_policy_machine.specs.declared.scope.ElementPart.TheVariants as part
use Rattle.cedar_policy_machine.specs.declared.scope.ElementAct.{ElementAct}
use Rattle.cedar_policy_machine.specs.declared.scope.ElementAct.TheVariants as act
use Rattle.cedar_syntax.specs.tokens.Tokens.{Spot, one}
use Rattle.cedar_grammar.specs.grammar.Place.{placed}
use Rattle.cedar_syntax.specs.trees.Trees.{Cell, variable_def_of}
use Rattle.cedar_grammar.specs.grammar.LooseWords.{ReadsAny, any, ReadsName}
use Rattle.cedar_grammar.specs.grammar.LooseExpressions.{ReadsRelOp, less, less_eq, greater_eq, greater, not_eq, equal, within, single_eq, ReadsExpr, ReadsAdd}
use Rattle.cedar_grammar.specs.grammar.LoosePolicies.{ReadsTypeName, no_type_name, type_name, ReadsEntityType, no_entity_type, entity_type, ReadsConstraint, no_constraint, constraint, ReadsVariableDef, variable_def}
use Rattle.cedar_grammar.specs.machines.Machine.{next, answer_state, steps, Comes, RunsTo, Completed, IsParser, machine_of, IsDone, option_image, is_some}
use Rattle.cedar_grammar.specs.machines.Marks.{relation_of}
use Rattle.cedar_policy_machine.specs.machines.Placing.{AsNode, as_node}
use Rattle.cedar_policy_machine.specs.machines.Following.{IsParting, comma, close_paren, FollowsSum, operator, parting, FollowsName, is_word, as_sum}
use Rattle.cedar_grammar.specs.machines.SingleTokens.{if_any}
use Rattle.cedar_policy_machine.specs.machines.Scope.{PartReaders, element_state, element_with_part, behind_part, compare_plan, narrow_plan, bare_plan, type_name_plan, entity_type_plan, constraint_plan, reader_plans, element_plan, element_ends, element_act, going_on, with_variable, with_type_name, with_entity_type, with_constraint, finished_element, element_finish, element_reader, elements}
use Rattle.cedar_grammar.proofs.machines.ByActs.{keeps}
use Rattle.cedar_grammar.proofs.machines.Laws.{some_is, then_steps, some_token}
use Rattle.cedar_grammar.proofs.machines.Holding.{Holds, held, one_more}
use Rattle.cedar_grammar.proofs.machines.Marked.{related_fits}
use Rattle.cedar_grammar.proofs.machines.Readers.{takes, taken_by, ended_by, leaves_tree, leaves_none}
use Rattle.cedar_grammar.proofs.machines.Ending.{EndsAt, Refuses, IsKind, spot_of, token_at}
use Rattle.cedar_policy_machine.proofs.machines.Annotation.{word_node_is, word_kept, word_does}
use Rattle.cedar_policy_machine.proofs.machines.ElementPlans.{NarrowPlanned, the_word, the_operator, ElementPlanned, names, colon, behind_variable, type_goes, behind_type, sum_goes, behind_sum, expression_goes, element_planned}
use Rattle.cedar_grammar.proofs.machines.Rightly.{EndsRightly, DoesRightly, image_of, image_some, can_end, has_tree, does_by, answers_from, images_done, images_kept}
use Rattle.cedar_grammar.proofs.machines.SingleTokens.{planned_any}

-- the parsers of the parts
pub record PartParsers {N S E A B C : Type 0} (src : List ℕ) (m : PartReaders N S E A B C) : Type 0 where
  pub name : IsParser (machine_of src m.name) (AsNode src (ReadsName src))
  pub sum : IsParser (machine_of src m.sum) (AsNode src (ReadsAdd src))
  pub expression : IsParser (machine_of src m.expression) (AsNode src (ReadsExpr src))
  pub name_right : EndsRightly src m.name
  pub sum_right : EndsRightly src m.sum
  pub expression_right : EndsRightly src m.expression
  pub behind_name : (k : TokenKind) → FollowsName k → EndsAt (machine_of src m.name) (IsKind k)
  pub behind_sum : (k : TokenKind) → FollowsSum k → EndsAt (machine_of src m.sum) (IsKind k)
  pub behind_expression : (k : TokenKind) → IsParting k → EndsAt (machine_of src m.expression) (IsKind k)

-- ---- what the element does while a part goes on

holds_name : {N S E A B C : Type 0} (src : List ℕ) (m : PartReaders N S E A B C) (s : ElementState N S E) → Holds (machine_of src m.name) (elements src m) (λ q. element_with_part s (part.TypeName q))
holds_name src m s q r t e =
    let h = taken_by src m.name q r t e in
    takes src (element_reader m) (element_with_part s (part.TypeName q)) (element_with_part s (part.TypeName r)) (act.TypeName h.what) t (ap (λ o. type_name_plan o (m.name.ends q) t.kind) h.planned)
    (ap (λ o. going_on s (option_image (λ q. part.TypeName q) o)) h.made)

holds_sum : {N S E A B C : Type 0} (src : List ℕ) (m : PartReaders N S E A B C) (s : ElementState N S E) → Holds (machine_of src m.sum) (elements src m) (λ q. element_with_part s (part.EntityType q))
holds_sum src m s q r t e =
    let h = taken_by src m.sum q r t e in
    takes src (element_reader m) (element_with_part s (part.EntityType q)) (element_with_part s (part.EntityType r)) (act.EntityType h.what) t (ap (λ o. entity_type_plan o (m.sum.ends q) t.kind) h.planned)
    (ap (λ o. going_on s (option_image (λ q. part.EntityType q) o)) h.made)

holds_expression : {N S E A B C : Type 0} (src : List ℕ) (m : PartReaders N S E A B C) (s : ElementState N S E) (o : RelOp) → Holds (machine_of src m.expression) (elements src m) (λ q. element_with_part s (part.Constraint o q))
holds_expression src m s o q r t e =
    let h = taken_by src m.expression q r t e in
    takes src (element_reader m) (element_with_part s (part.Constraint o q)) (element_with_part s (part.Constraint o r)) (act.Constraint h.what) t (ap (λ o. constraint_plan o) h.planned)
    (ap (λ q. going_on s (option_image (λ q. part.Constraint o q) q)) h.made)

-- behind a part that ends there

type_leaves : {N S E A B C : Type 0} (src : List ℕ) (m : PartReaders N S E A B C) → PartParsers src m → (q : N) (x : Cell Name) (t : Lexeme) → FollowsName t.kind → m.name.finish src q ≡ Some x →
    type_name_plan (m.name.plan q t.kind) (m.name.ends q) t.kind ≡ narrow_plan {A = A} {B = B} {C = C} t.kind
type_leaves src m d q x t h e =
    ap (λ o. type_name_plan o (m.name.ends q) t.kind) (ended_by src m.name q t x (d.behind_name t.kind h q x t refl e)).0 ∙ ap (λ b. type_name_plan None b t.kind) (can_end src m.name d.name_right q x e)

sum_leaves : {N S E A B C : Type 0} (src : List ℕ) (m : PartReaders N S E A B C) → PartParsers src m → (q : S) (x : Cell Add) (t : Lexeme) → FollowsSum t.kind → m.sum.finish src q ≡ Some x →
    entity_type_plan (m.sum.plan q t.kind) (m.sum.ends q) t.kind ≡ compare_plan {A = A} {B = B} {C = C} t.kind
sum_leaves src m d q x t h e =
    ap (λ o. entity_type_plan o (m.sum.ends q) t.kind) (ended_by src m.sum q t x (d.behind_sum t.kind h q x t refl e)).0 ∙ ap (λ b. entity_type_plan None b t.kind) (can_end src m.sum d.sum_right q x e)

-- ---- complete

bare_compares : {A B C : Type 0} {k : TokenKind} {o : RelOp} → ReadsRelOp k o → bare_plan {A = A} {B = B} {C = C} k ≡ Some (act.Compare o)
bare_compares less = refl
bare_compares less_eq = refl
bare_compares greater_eq = refl
bare_compares greater = refl
bare_compares not_eq = refl
bare_compares equal = refl
bare_compares within = refl
bare_compares single_eq = refl

narrow_compares : {A B C : Type 0} {k : TokenKind} {o : RelOp} → ReadsRelOp k o → narrow_plan {A = A} {B = B} {C = C} k ≡ Some (act.Compare o)
narrow_compares less = refl
narrow_compares less_eq = refl
narrow_compares greater_eq = refl
narrow_compares greater = refl
narrow_compares not_eq = refl
narrow_compares equal = refl
narrow_compares within = refl
narrow_compares single_eq = refl

an_operator : {k : TokenKind} {o : RelOp} → ReadsRelOp k o → relation_of k ≡ Some o
an_operator less = refl
an_operator less_eq = refl
an_operator greater_eq = refl
an_operator greater = refl
an_operator not_eq = refl
an_operator equal = refl
an_operator within = refl
an_operator single_eq = refl

-- behind a variable and its type name
record Typed {N S E A B C : Type 0} (src : List ℕ) (m : PartReaders N S E A B C) (ts : List Lexeme) (i : Cell Ident) (x : Option (Cell Name)) : Type 0 where
  last : ElementState N S E
  goes : Comes (elements src m) ts last
  ends : element_finish m src last ≡ Some (variable_def_of i x None None)
  narrows : (p : Spot) → (elements src m).step last (token_at kind.Is p) ≡ next (element_state i x None (part.EntityType m.sum.start))
  compares : (k : TokenKind) (p : Spot) (o : RelOp) → ReadsRelOp k o → (elements src m).step last (token_at k p) ≡ next (element_state i x None (part.Constraint o m.expression.start))

-- a variable alone
abbrev bare : {N S E : Type 0} → Cell Ident → ElementState N S E
bare i = element_state i None None part.Nothing

variable_runs : {N S E A B C : Type 0} (src : List ℕ) (m : PartReaders N S E A B C) {ts : List Lexeme} {i : Ident} → ReadsAny ts i → Comes (elements src m) ts (bare (placed src ts i))
variable_runs src m (any {k = k} {i = i} q e) =
    ap (λ a. answer_state a)
    (takes src (element_reader m) (element_reader m).start (bare (placed src (one k q) i)) act.Variable (token_at k q) (planned_any k q.text act.Variable i e)
    (ap (λ o. option_image (λ i. with_variable (element_reader m).start i) o) (word_node_is src (token_at k q) i e)))

type_runs : {N S E A B C : Type 0} {src : List ℕ} {m : PartReaders N S E A B C} → PartParsers src m → {ts us : List Lexeme} {i : Ident} {x : Option (Cell Name)} → ReadsAny ts i → ReadsTypeName src us x → Typed src m (ts ++ us) (placed src ts i) x
type_runs {src = src} {m = m} d {ts = ts} {i = i} w no_type_name = record {
  last = bare (placed src ts i);
  goes = ap (λ ts. steps (elements src m) (Some (element_reader m).start) ts) (append-nil ts) ∙ variable_runs src m w;
  ends = refl;
  narrows = λ p. refl;
  compares = λ k p o h. takes src (element_reader m) (bare (placed src ts i)) (element_with_part (bare (placed src ts i)) (part.Constraint o m.expression.start)) (act.Compare o) (token_at k p) (bare_compares h) refl;
}
type_runs {src = src} {m = m} d {ts = ts} {i = i} w (type_name {ts = us} {x = x} p r) =
    let c = d.name.complete us (placed src us x) (as_node r) in
    let v = bare (placed src ts i) in
    let last = element_with_part v (part.TypeName c.last) in
    record {
      last = last;
      goes = then_steps (elements src m) (Some (element_reader m).start) (Some v) _ ts (one kind.Colon p ++ us) (variable_runs src m w)
          (held (machine_of src m.name) (elements src m) (λ q. element_with_part v (part.TypeName q)) (holds_name src m v) us m.name.start c.last c.goes);
      ends = ap (λ o. with_type_name last o) c.ends;
      narrows = λ p. takes src (element_reader m) last (element_state (placed src ts i) (Some (placed src us x)) None (part.EntityType m.sum.start)) act.Is (token_at kind.Is p)
          (type_leaves src m d c.last (placed src us x) (token_at kind.Is p) is_word c.ends) (ap (λ o. Some (element_state (placed src ts i) o None (part.EntityType m.sum.start))) c.ends);
      compares = λ k p o h. takes src (element_reader m) last (element_state (placed src ts i) (Some (placed src us x)) None (part.Constraint o m.expression.start)) (act.Compare o) (token_at k p)
          (type_leaves src m d c.last (placed src us x) (token_at k p) (as_sum (operator o h)) c.ends ∙ narrow_compares h) (ap (λ n. Some (element_state (placed src ts i) n None (part.Constraint o m.expression.start))) c.ends);
    }

-- behind the entity type
record EntityTyped {N S E A B C : Type 0} (src : List ℕ) (m : PartReaders N S E A B C) (ts : List Lexeme) (i : Cell Ident) (x : Option (Cell Name)) (y : Option (Cell Add)) : Type 0 where
  last : ElementState N S E
  goes : Comes (elements src m) ts last
  ends : element_finish m src last ≡ Some (variable_def_of i x y None)
  compares : (k : TokenKind) (p : Spot) (o : RelOp) → ReadsRelOp k o → (elements src m).step last (token_at k p) ≡ next (element_state i x y (part.Constraint o m.expression.start))

entity_runs : {N S E A B C : Type 0} {src : List ℕ} {m : PartReaders N S E A B C} → PartParsers src m → {ts vs : List Lexeme} {i : Cell Ident} {x : Option (Cell Name)} {y : Option (Cell Add)} → Typed src m ts i x → ReadsEntityType src vs y →
    EntityTyped src m (ts ++ vs) i x y
entity_runs {src = src} {m = m} d {ts = ts} {i = i} {x = x} g no_entity_type = record {
  last = g.last;
  goes = ap (λ ts. steps (elements src m) (Some (element_reader m).start) ts) (append-nil ts) ∙ g.goes;
  ends = g.ends;
  compares = g.compares;
}
entity_runs {src = src} {m = m} d {ts = ts} {i = i} {x = x} g (entity_type {ts = us} {x = y} p r) =
    let c = d.sum.complete us (placed src us y) (as_node r) in
    let v = element_state i x None (part.EntityType m.sum.start) in
    let last = element_with_part v (part.EntityType c.last) in
    record {
      last = last;
      goes = then_steps (elements src m) (Some (element_reader m).start) (Some g.last) _ ts (one kind.Is p ++ us) g.goes
          (ap (λ a. steps (elements src m) (answer_state a) us) (g.narrows p) ∙ held (machine_of src m.sum) (elements src m) (λ q. element_with_part v (part.EntityType q)) (holds_sum src m v) us m.sum.start c.last c.goes);
      ends = ap (λ o. with_entity_type last o) c.ends;
      compares = λ k p o h. takes src (element_reader m) last (element_state i x (Some (placed src us y)) (part.Constraint o m.expression.start)) (act.Compare o) (token_at k p)
          (sum_leaves src m d c.last (placed src us y) (token_at k p) (operator o h) c.ends ∙ ap (λ o. option_image (λ o. act.Compare o) o) (an_operator h))
          (ap (λ n. Some (element_state i x n (part.Constraint o m.expression.start))) c.ends);
    }

constraint_runs : {N S E A B C : Type 0} {src : List ℕ} {m : PartReaders N S E A B C} → PartParsers src m → {ts ws : List Lexeme} {i : Cell Ident} {x : Option (Cell Name)} {y : Option (Cell Add)} {z : Option (RelOp × Cell Expr)} → EntityTyped src m ts i x y →
    ReadsConstraint src ws z → RunsTo (elements src m) (ts ++ ws) (variable_def_of i x y z)
constraint_runs {src = src} {m = m} d {ts = ts} g no_constraint = record { last = g.last; goes = ap (λ ts. steps (elements src m) (Some (element_reader m).start) ts) (append-nil ts) ∙ g.goes; ends = g.ends }
constraint_runs {src = src} {m = m} d {ts = ts} {i = i} {x = x} {y = y} g (constraint {ts = us} {k = k} {o = o} {x = z} p h r) =
    let c = d.expression.complete us (placed src us z) (as_node r) in
    let v = element_state i x y (part.Constraint o m.expression.start) in
    record {
      last = element_with_part v (part.Constraint o c.last);
      goes = then_steps (elements src m) (Some (element_reader m).start) (Some g.last) _ ts (one k p ++ us) g.goes
          (ap (λ a. steps (elements src m) (answer_state a) us) (g.compares k p o h)
          ∙ held (machine_of src m.expression) (elements src m) (λ q. element_with_part v (part.Constraint o q)) (holds_expression src m v o) us m.expression.start c.last c.goes);
      ends = ap (λ z. with_constraint v o z) c.ends;
    }

element_complete : {N S E A B C : Type 0} {src : List ℕ} {m : PartReaders N S E A B C} → PartParsers src m → {ts : List Lexeme} {x : VariableDef} → ReadsVariableDef src ts x → RunsTo (elements src m) ts x
element_complete {src = src} {m = m} d (variable_def {ts = ts} {us = us} {vs = vs} {ws = ws} {i = i} {x = x} {y = y} {z = z} w t e c) =
    subst (λ ts'. RunsTo (elements src m) ts' (variable_def_of (placed src ts i) x y z)) (assoc ts us vs ws) (constraint_runs d (entity_runs d (type_runs d w t) e) c)
  where
    assoc : (ts us vs ws : List Lexeme) → ts ++ us ++ vs ++ ws ≡ ts ++ (us ++ (vs ++ ws))
    assoc ts us vs ws = simp append_assoc

-- ---- sound

data ElementRead {N S E A B C : Type 0} (src : List ℕ) (m : PartReaders N S E A B C) : List Lexeme → ElementState N S E → Type 0 where
  at_start : ElementRead src m [] (element_reader m).start
  at_word : {ts : List Lexeme} {i : Ident} → ReadsAny ts i → ElementRead src m ts (bare (placed src ts i))
  at_name : {ts : List Lexeme} {i : Ident} {s : N} (p : Spot) (us : List Lexeme) → ReadsAny ts i → Comes (machine_of src m.name) us s → ElementRead src m (ts ++ one kind.Colon p ++ us) (element_state (placed src ts i) None None (part.TypeName s))
  at_type : {ts us : List Lexeme} {i : Ident} {x : Option (Cell Name)} {s : S} (p : Spot) (vs : List Lexeme) → ReadsAny ts i → ReadsTypeName src us x → Comes (machine_of src m.sum) vs s →
      ElementRead src m (ts ++ us ++ one kind.Is p ++ vs) (element_state (placed src ts i) x None (part.EntityType s))
  at_operator : {ts us vs : List Lexeme} {i : Ident} {x : Option (Cell Name)} {y : Option (Cell Add)} {k : TokenKind} {o : RelOp} {s : E} (p : Spot) (ws : List Lexeme) →
      ReadsAny ts i → ReadsTypeName src us x → ReadsEntityType src vs y → ReadsRelOp k o → Comes (machine_of src m.expression) ws s →
      ElementRead src m (ts ++ us ++ vs ++ one k p ++ ws) (element_state (placed src ts i) x y (part.Constraint o s))

snoc : (ts us : List Lexeme) (t : Lexeme) → ts ++ (us ++ t ∷ []) ≡ ts ++ us ++ t ∷ []
snoc ts us t = simp append_assoc

-- where a part begins

name_begins : {N S E A B C : Type 0} (src : List ℕ) (m : PartReaders N S E A B C) {ts : List Lexeme} {i : Ident} → ReadsAny ts i → (p : Spot) → ElementRead src m (ts ++ one kind.Colon p) (element_state (placed src ts i) None None (part.TypeName m.name.start))
name_begins src m {ts = ts} {i = i} w p = subst (λ ts'. ElementRead src m ts' (element_state (placed src ts i) None None (part.TypeName m.name.start))) (append-nil (ts ++ one kind.Colon p)) (at_name p [] w refl)

sum_begins : {N S E A B C : Type 0} (src : List ℕ) (m : PartReaders N S E A B C) {ts us : List Lexeme} {i : Ident} {x : Option (Cell Name)} → ReadsAny ts i → ReadsTypeName src us x → (p : Spot) →
    ElementRead src m (ts ++ us ++ one kind.Is p) (element_state (placed src ts i) x None (part.EntityType m.sum.start))
sum_begins src m {ts = ts} {us = us} {i = i} {x = x} w n p =
    subst (λ ts'. ElementRead src m ts' (element_state (placed src ts i) x None (part.EntityType m.sum.start))) (append-nil (ts ++ us ++ one kind.Is p)) (at_type p [] w n refl)

constraint_begins : {N S E A B C : Type 0} (src : List ℕ) (m : PartReaders N S E A B C) {ts us vs : List Lexeme} {i : Ident} {x : Option (Cell Name)} {y : Option (Cell Add)} → ReadsAny ts i → ReadsTypeName src us x → ReadsEntityType src vs y →
    (k : TokenKind) (p : Spot) (o : RelOp) → ReadsRelOp k o → ElementRead src m (ts ++ us ++ vs ++ one k p) (element_state (placed src ts i) x y (part.Constraint o m.expression.start))
constraint_begins src m {ts = ts} {us = us} {vs = vs} {i = i} {x = x} {y = y} w n f k p o r =
    subst (λ ts'. ElementRead src m ts' (element_state (placed src ts i) x y (part.Constraint o m.expression.start))) (append-nil (ts ++ us ++ vs ++ one k p)) (at_operator p [] w n f r refl)

-- behind a variable and its type name, where another part begins
narrow_kept : {N S E A B C : Type 0} (src : List ℕ) (m : PartReaders N S E A B C) {ts us : List Lexeme} {i : Ident} {x : Option (Cell Name)} → ReadsAny ts i → ReadsTypeName src us x → (s : ElementState N S E) →
    ((u : ElementPart N S E) → behind_part src m s s.part u ≡ element_state (placed src ts i) x None u) → (k : TokenKind) (a : ElementAct A B C) (p : Spot) → NarrowPlanned k a →
    IfSome (element_act m src s a (token_at k p)) (λ q. ElementRead src m (ts ++ us ++ one k p) q)
narrow_kept src m {ts = ts} {us = us} w n s b k a p the_word = subst (λ q. ElementRead src m (ts ++ us ++ one kind.Is p) q) (sym (b (part.EntityType m.sum.start))) (sum_begins src m w n p)
narrow_kept src m {ts = ts} {us = us} {i = i} {x = x} w n s b k a p (the_operator {o = o} r) =
    subst (λ q. ElementRead src m (ts ++ us ++ one k p) q) (sym (b (part.Constraint o m.expression.start)))
    (subst (λ ts'. ElementRead src m (ts' ++ one k p) (element_state (placed src ts i) x None (part.Constraint o m.expression.start))) (append-nil (ts ++ us)) (constraint_begins src m w n no_entity_type k p o r))

-- what a part makes of its tokens

type_of : {src : List ℕ} {us : List Lexeme} {x : Cell Name} (p : Spot) → AsNode src (ReadsName src) us x → ReadsTypeName src (one kind.Colon p ++ us) (Some x)
type_of p (as_node r) = type_name p r

entity_of : {src : List ℕ} {us : List Lexeme} {x : Cell Add} (p : Spot) → AsNode src (ReadsAdd src) us x → ReadsEntityType src (one kind.Is p ++ us) (Some x)
entity_of p (as_node r) = entity_type p r

constraint_of : {src : List ℕ} {us : List Lexeme} {k : TokenKind} {o : RelOp} {x : Cell Expr} (p : Spot) → ReadsRelOp k o → AsNode src (ReadsExpr src) us x → ReadsConstraint src (one k p ++ us) (Some (o, x))
constraint_of p h (as_node r) = constraint p h r

behind_colon : (ts us : List Lexeme) (p : Spot) → ts ++ (one kind.Colon p ++ us) ≡ ts ++ one kind.Colon p ++ us
behind_colon ts us p = simp append_assoc

behind_is : (ts us : List Lexeme) (p : Spot) → ts ++ (one kind.Is p ++ us) ≡ ts ++ one kind.Is p ++ us
behind_is ts us p = simp append_assoc

one_kept : {N S E A B C : Type 0} {src : List ℕ} {m : PartReaders N S E A B C} → PartParsers src m → (ts : List Lexeme) (s : ElementState N S E) (k : TokenKind) (a : ElementAct A B C) (p : Spot) → ElementRead src m ts s → ElementPlanned (reader_plans m) s.part k a →
    IfSome (element_act m src s a (token_at k p)) (λ q. ElementRead src m (ts ++ one k p) q)
one_kept {src = src} {m = m} d ts s k a p at_start (names h) = word_kept src (token_at k p) (λ i. with_variable (element_reader m).start i) (λ q. ElementRead src m (one k p) q) (λ i e. at_word (any p e))
one_kept {src = src} {m = m} d ts s k a p (at_word w) colon = name_begins src m w p
one_kept {src = src} {m = m} d ts s k a p (at_word {ts = us} {i = i} w) (behind_variable h) =
    subst (λ us'. IfSome (element_act m src (bare (placed src us i)) a (token_at k p)) (λ q. ElementRead src m (us' ++ one k p) q)) (append-nil us) (narrow_kept src m w no_type_name (bare (placed src us i)) (λ u. refl) k a p h)
one_kept {src = src} {m = m} d ts s k a p (at_name {ts = vs} {i = i} {s = q} l us w c) (type_goes {a = b} h) =
    images_kept (λ u. element_with_part (bare (placed src vs i)) u) (λ q. part.TypeName q) (λ q. ElementRead src m (vs ++ one kind.Colon l ++ us ++ one k p) q) (m.name.act src q b (token_at k p))
    (λ r f. subst (λ ts'. ElementRead src m ts' (element_state (placed src vs i) None None (part.TypeName r))) (snoc (vs ++ one kind.Colon l) us (token_at k p))
    (at_name l (us ++ one k p) w (one_more (machine_of src m.name) us q r (token_at k p) c (takes src m.name q r b (token_at k p) h f))))
one_kept {src = src} {m = m} d ts s k a p (at_name {ts = vs} {i = i} {s = q} l us w c) (behind_type g h) =
    let f = has_tree src m.name d.name_right q g in
    let v = element_state (placed src vs i) None None (part.TypeName q) in
    subst (λ ts'. IfSome (element_act m src v a (token_at k p)) (λ q. ElementRead src m (ts' ++ one k p) q)) (behind_colon vs us l)
    (narrow_kept src m w (type_of l (d.name.sound us q f.0 c f.1)) v (λ u. ap (λ o. element_state (placed src vs i) o None u) f.1) k a p h)
one_kept {src = src} {m = m} d ts s k a p (at_type {ts = ws} {us = us} {i = i} {x = x} {s = q} l vs w n c) (sum_goes {a = b} h) =
    images_kept (λ u. element_state (placed src ws i) x None u) (λ q. part.EntityType q) (λ q. ElementRead src m (ws ++ us ++ one kind.Is l ++ vs ++ one k p) q) (m.sum.act src q b (token_at k p))
    (λ r f. subst (λ ts'. ElementRead src m ts' (element_state (placed src ws i) x None (part.EntityType r))) (snoc (ws ++ us ++ one kind.Is l) vs (token_at k p))
    (at_type l (vs ++ one k p) w n (one_more (machine_of src m.sum) vs q r (token_at k p) c (takes src m.sum q r b (token_at k p) h f))))
one_kept {src = src} {m = m} d ts s k a p (at_type {ts = ws} {us = us} {i = i} {x = x} {s = q} l vs w n c) (behind_sum {o = o} g r) =
    let f = has_tree src m.sum d.sum_right q g in
    subst (λ y. ElementRead src m (ws ++ us ++ one kind.Is l ++ vs ++ one k p) (element_state (placed src ws i) x y (part.Constraint o m.expression.start))) (sym f.1)
    (subst (λ ts'. ElementRead src m (ts' ++ one k p) (element_state (placed src ws i) x (Some f.0) (part.Constraint o m.expression.start))) (behind_is (ws ++ us) vs l) (constraint_begins src m w n (entity_of l (d.sum.sound vs q f.0 c f.1)) k p o r))
one_kept {src = src} {m = m} d ts s k a p (at_operator {ts = os} {us = us} {vs = vs} {i = i} {x = x} {y = y} {k = j} {o = o} {s = q} l ws w n f h c) (expression_goes {a = b} g) =
    images_kept (λ u. element_state (placed src os i) x y u) (λ q. part.Constraint o q) (λ q. ElementRead src m (os ++ us ++ vs ++ one j l ++ ws ++ one k p) q) (m.expression.act src q b (token_at k p))
    (λ r e. subst (λ ts'. ElementRead src m ts' (element_state (placed src os i) x y (part.Constraint o r))) (snoc (os ++ us ++ vs ++ one j l) ws (token_at k p))
    (at_operator l (ws ++ one k p) w n f h (one_more (machine_of src m.expression) ws q r (token_at k p) c (takes src m.expression q r b (token_at k p) g e))))

element_kept : {N S E A B C : Type 0} {src : List ℕ} {m : PartReaders N S E A B C} → PartParsers src m → (ts : List Lexeme) (s : ElementState N S E) → Comes (elements src m) ts s → ElementRead src m ts s
element_kept {src = src} {m = m} d =
    keeps src (element_reader m) (λ ts s. ElementRead src m ts s) at_start (λ ts s t a r e. one_kept d ts s t.kind a (spot_of t) r (element_planned (reader_plans m) s.part t.kind a e))

element_sound : {N S E A B C : Type 0} {src : List ℕ} {m : PartReaders N S E A B C} → PartParsers src m → {ts : List Lexeme} {s : ElementState N S E} (v : VariableDef) → ElementRead src m ts s → element_finish m src s ≡ Some v → ReadsVariableDef src ts v
element_sound d v at_start e = absurd (cc)
element_sound {src = src} d v (at_word {ts = ts} {i = i} w) e =
    let r : ReadsVariableDef src (ts ++ []) (variable_def_of (placed src ts i) None None None) = variable_def w no_type_name no_entity_type no_constraint in
    subst (λ ts. ReadsVariableDef src ts v) (append-nil ts) (subst (λ v. ReadsVariableDef src (ts ++ []) v) (some_is e) r)
element_sound {src = src} {m = m} d v (at_name {ts = ts} {i = i} {s = s} p us w c) e =
    let f = image_of (λ x. variable_def_of (placed src ts i) (Some x) None None) (m.name.finish src s) v e in
    subst (λ ts. ReadsVariableDef src ts v) (assoc ts us) (subst (λ v. ReadsVariableDef src (ts ++ ((one kind.Colon p ++ us) ++ [])) v) f.2 (variable_def w (type_of p (d.name.sound us s f.0 c f.1)) no_entity_type no_constraint))
  where
    assoc : (ts us : List Lexeme) → ts ++ ((one kind.Colon p ++ us) ++ []) ≡ ts ++ one kind.Colon p ++ us
    assoc ts us = ap (λ us. ts ++ us) (append-nil (one kind.Colon p ++ us)) ∙ sym (append_assoc ts (one kind.Colon p) us)
element_sound {src = src} {m = m} d v (at_type {ts = ts} {us = us} {i = i} {x = x} {s = s} p vs w n c) e =
    let f = image_of (λ y. variable_def_of (placed src ts i) x (Some y) None) (m.sum.finish src s) v e in
    subst (λ ts. ReadsVariableDef src ts v) (assoc ts us vs) (subst (λ v. ReadsVariableDef src (ts ++ (us ++ ((one kind.Is p ++ vs) ++ []))) v) f.2 (variable_def w n (entity_of p (d.sum.sound vs s f.0 c f.1)) no_constraint))
  where
    assoc : (ts us vs : List Lexeme) → ts ++ (us ++ ((one kind.Is p ++ vs) ++ [])) ≡ ts ++ us ++ one kind.Is p ++ vs
    assoc ts us vs = ap (λ vs. ts ++ (us ++ vs)) (append-nil (one kind.Is p ++ vs)) ∙ again ts us vs
      where
        again : (ts us vs : List Lexeme) → ts ++ (us ++ (one kind.Is p ++ vs)) ≡ ts ++ us ++ one kind.Is p ++ vs
        again ts us vs = simp append_assoc
element_sound {src = src} {m = m} d v (at_operator {ts = ts} {us = us} {vs = vs} {i = i} {x = x} {y = y} {k = k} {o = o} {s = s} p ws w n f h c) e =
    let g = image_of (λ z. variable_def_of (placed src ts i) x y (Some (o, z))) (m.expression.finish src s) v e in
    subst (λ ts. ReadsVariableDef src ts v) (assoc ts us vs ws) (subst (λ v. ReadsVariableDef src (ts ++ (us ++ (vs ++ (one k p ++ ws)))) v) g.2 (variable_def w n f (constraint_of p h (d.expression.sound ws s g.0 c g.1))))
  where
    assoc : (ts us vs ws : List Lexeme) → ts ++ (us ++ (vs ++ (one k p ++ ws))) ≡ ts ++ us ++ vs ++ one k p ++ ws
    assoc ts us vs ws = simp append_assoc

-- ---- viable

viable_at : {N S E A B C : Type 0} {src : List ℕ} {m : PartReaders N S E A B C} → PartParsers src m → (s : ElementState N S E) (u : ElementPart N S E) → Completed (elements src m) (element_with_part s u)
viable_at d s part.Start = record { more = some_token kind.Identifier ∷ []; last = _; tree = _; goes = refl; ends = refl }
viable_at d s part.Nothing = record { more = []; last = element_with_part s part.Nothing; tree = variable_def_of s.variable s.unused_type_name s.entity_type None; goes = refl; ends = refl }
viable_at {src = src} {m = m} d s (part.TypeName q) =
    let c = d.name.viable q in
    record {
      more = c.more;
      last = element_with_part s (part.TypeName c.last);
      tree = variable_def_of s.variable (Some c.tree) s.entity_type None;
      goes = held (machine_of src m.name) (elements src m) (λ q. element_with_part s (part.TypeName q)) (holds_name src m s) c.more q c.last c.goes;
      ends = ap (λ o. with_type_name s o) c.ends;
    }
viable_at {src = src} {m = m} d s (part.EntityType q) =
    let c = d.sum.viable q in
    record {
      more = c.more;
      last = element_with_part s (part.EntityType c.last);
      tree = variable_def_of s.variable s.unused_type_name (Some c.tree) None;
      goes = held (machine_of src m.sum) (elements src m) (λ q. element_with_part s (part.EntityType q)) (holds_sum src m s) c.more q c.last c.goes;
      ends = ap (λ o. with_entity_type s o) c.ends;
    }
viable_at {src = src} {m = m} d s (part.Constraint o q) =
    let c = d.expression.viable q in
    record {
      more = c.more;
      last = element_with_part s (part.Constraint o c.last);
      tree = variable_def_of s.variable s.unused_type_name s.entity_type (Some (o, c.tree));
      goes = held (machine_of src m.expression) (elements src m) (λ q. element_with_part s (part.Constraint o q)) (holds_expression src m s o) c.more q c.last c.goes;
      ends = ap (λ z. with_constraint s o z) c.ends;
    }

-- ---- answers

-- what the parts do
pub record PartsDo {N S E A B C : Type 0} (src : List ℕ) (m : PartReaders N S E A B C) : Type 0 where
  pub name : DoesRightly src m.name
  pub sum : DoesRightly src m.sum
  pub expression : DoesRightly src m.expression

ends_at : {N S E A B C : Type 0} (src : List ℕ) (m : PartReaders N S E A B C) → EndsRightly src m.name → EndsRightly src m.sum → EndsRightly src m.expression → (s : ElementState N S E) (u : ElementPart N S E) →
    element_ends (reader_plans m) u ≡ is_some (finished_element src m s u)
ends_at src m f g h s part.Start = refl
ends_at src m f g h s part.Nothing = refl
ends_at src m f g h s (part.TypeName q) = f q ∙ sym (image_some (λ x. variable_def_of s.variable (Some x) s.entity_type None) (m.name.finish src q))
ends_at src m f g h s (part.EntityType q) = g q ∙ sym (image_some (λ y. variable_def_of s.variable s.unused_type_name (Some y) None) (m.sum.finish src q))
ends_at src m f g h s (part.Constraint o q) = h q ∙ sym (image_some (λ z. variable_def_of s.variable s.unused_type_name s.entity_type (Some (o, z))) (m.expression.finish src q))

pub element_right : {N S E A B C : Type 0} (src : List ℕ) (m : PartReaders N S E A B C) → EndsRightly src m.name → EndsRightly src m.sum → EndsRightly src m.expression → EndsRightly src (element_reader m)
element_right src m f g h s = ends_at src m f g h s s.part

narrow_does : {N S E A B C : Type 0} (src : List ℕ) (m : PartReaders N S E A B C) (s : ElementState N S E) (k : TokenKind) (a : ElementAct A B C) (p : Spot) → NarrowPlanned k a → IsDone (token_at k p) (element_act m src s a (token_at k p))
narrow_does src m s k a p the_word = λ e. absurd (cc)
narrow_does src m s k a p (the_operator {o = o} r) = related_fits (token_at k p) o (an_operator r)

does_at : {N S E A B C : Type 0} (src : List ℕ) (m : PartReaders N S E A B C) → PartsDo src m → (s : ElementState N S E) (u : ElementPart N S E) (k : TokenKind) (a : ElementAct A B C) (p : Spot) → ElementPlanned (reader_plans m) u k a →
    IsDone (token_at k p) (element_act m src (element_with_part s u) a (token_at k p))
does_at src m d s u k a p (names h) = word_does src (token_at k p) (λ i. with_variable s i) act.Variable act.Variable h
does_at src m d s u k a p colon = λ e. absurd (cc)
does_at src m d s u k a p (behind_variable h) = narrow_does src m (element_with_part s part.Nothing) k a p h
does_at src m d s u k a p (type_goes {s = q} {a = b} h) = images_done (λ u. element_with_part s u) (λ q. part.TypeName q) (token_at k p) (m.name.act src q b (token_at k p)) (d.name q b (token_at k p) h)
does_at src m d s u k a p (behind_type {s = q} g h) = narrow_does src m (element_with_part s (part.TypeName q)) k a p h
does_at src m d s u k a p (sum_goes {s = q} {a = b} h) = images_done (λ u. element_with_part s u) (λ q. part.EntityType q) (token_at k p) (m.sum.act src q b (token_at k p)) (d.sum q b (token_at k p) h)
does_at src m d s u k a p (behind_sum {o = o} g r) = related_fits (token_at k p) o (an_operator r)
does_at src m d s u k a p (expression_goes {o = o} {s = q} {a = b} h) =
    images_done (λ u. element_with_part s u) (λ q. part.Constraint o q) (token_at k p) (m.expression.act src q b (token_at k p)) (d.expression q b (token_at k p) h)

pub element_does : {N S E A B C : Type 0} (src : List ℕ) (m : PartReaders N S E A B C) → PartsDo src m → DoesRightly src (element_reader m)
element_does src m d s a t e = does_at src m d s s.part t.kind a (spot_of t) (element_planned (reader_plans m) s.part t.kind a e)

parts_do : {N S E A B C : Type 0} (src : List ℕ) (m : PartReaders N S E A B C) → PartParsers src m → PartsDo src m
parts_do src m d = record { name = does_by src m.name d.name.answers; sum = does_by src m.sum d.sum.answers; expression = does_by src m.expression d.expression.answers }

pub element_parser : {N S E A B C : Type 0} (src : List ℕ) (m : PartReaders N S E A B C) → PartParsers src m → IsParser (elements src m) (ReadsVariableDef src)
element_parser src m d = record {
  complete = λ ts v r. element_complete d r;
  sound = λ ts s v f e. element_sound d v (element_kept d ts s f) e;
  viable = λ s. viable_at d s s.part;
  answers = answers_from src (element_reader m) (element_does src m (parts_do src m d));
}

-- ---- where one ends

-- a comma, or the end of the scope
abbrev pub IsBehindElement : Lexeme → Type 0
IsBehindElement t = IsParting t.kind

bare_parted : {A B C : Type 0} (k : TokenKind) → IsParting k → bare_plan {A = A} {B = B} {C = C} k ≡ None
bare_parted k comma = refl
bare_parted k close_paren = refl

narrow_parted : {A B C : Type 0} (k : TokenKind) → IsParting k → narrow_plan {A = A} {B = B} {C = C} k ≡ None
narrow_parted k comma = refl
narrow_parted k close_paren = refl

compare_parted : {A B C : Type 0} (k : TokenKind) → IsParting k → compare_plan {A = A} {B = B} {C = C} k ≡ None
compare_parted k comma = refl
compare_parted k close_paren = refl

variable_parted : {A B C : Type 0} (k : TokenKind) → IsParting k → if_any {A = ElementAct A B C} k act.Variable ≡ None
variable_parted k comma = refl
variable_parted k close_paren = refl

parted_at : {N S E A B C : Type 0} (src : List ℕ) (m : PartReaders N S E A B C) → PartParsers src m → (s : ElementState N S E) (u : ElementPart N S E) (v : VariableDef) (t : Lexeme) → IsParting t.kind → finished_element src m s u ≡ Some v →
    element_plan (reader_plans m) u t.kind ≡ None
parted_at src m d s part.Start v t h e = absurd (cc)
parted_at src m d s part.Nothing v t h e = bare_parted t.kind h
parted_at src m d s (part.TypeName q) v t h e =
    let f = image_of (λ x. variable_def_of s.variable (Some x) s.entity_type None) (m.name.finish src q) v e in
    type_leaves src m d q f.0 t (as_sum (parting h)) f.1 ∙ narrow_parted t.kind h
parted_at src m d s (part.EntityType q) v t h e =
    let f = image_of (λ y. variable_def_of s.variable s.unused_type_name (Some y) None) (m.sum.finish src q) v e in
    sum_leaves src m d q f.0 t (parting h) f.1 ∙ compare_parted t.kind h
parted_at src m d s (part.Constraint o q) v t h e =
    let f = image_of (λ z. variable_def_of s.variable s.unused_type_name s.entity_type (Some (o, z))) (m.expression.finish src q) v e in
    ap (λ o. constraint_plan o) (ended_by src m.expression q t f.0 (d.behind_expression t.kind h q f.0 t refl f.1)).0

pub element_ends_at : {N S E A B C : Type 0} (src : List ℕ) (m : PartReaders N S E A B C) → PartParsers src m → EndsAt (elements src m) IsBehindElement
element_ends_at src m d s v t h e = leaves_tree src (element_reader m) s t v (parted_at src m d s s.part v t h e) e

pub element_refuses : {N S E A B C : Type 0} (src : List ℕ) (m : PartReaders N S E A B C) → Refuses (elements src m) IsBehindElement
element_refuses src m t h = leaves_none src (element_reader m) (element_reader m).start t (variable_parted t.kind h) refl

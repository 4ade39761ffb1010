-- An element of a scope is held of its tokens.
use Rattle.std.proofs.Common.{◌≡◌, ℕ, Bool, true, false, cond, not, ◌&&◌, List, [], ◌∷◌, ◌++◌, append-nil, append_assoc, Option, Ok, refl, sym, ap, ◌∙◌}
use Rattle.std.specs.List.{list_all}
use Rattle.cedar_lexer.specs.Token.{Lexeme}
use Rattle.cedar_lexer.specs.declared.token.TokenKind.{TokenKind}
use Rattle.cedar_lexer.specs.declared.token.TokenKind.TheVariants as kind
use Rattle.cedar_expressions.specs.declared.entity.EntityType.{EntityType}
use Rattle.cedar_expressions.specs.declared.entity.EntityUID.{EntityUID}
use Rattle.cedar_expressions.specs.declared.atoms.Var.{Var}
use Rattle.cedar_expressions.specs.declared.atoms.Var.TheVariants as vars
use Rattle.cedar_policy_store.specs.declared.constraints.ActionConstraint.{ActionConstraint}
use Rattle.cedar_policy_store.specs.declared.constraints.ActionConstraint.TheVariants as action
use Rattle.cedar_policy_store.specs.declared.constraints.EntityReference.{EntityReference}
use Rattle.cedar_policy_store.specs.declared.constraints.PrincipalOrResourceConstraint.{PrincipalOrResourceConstraint}
use Rattle.cedar_policy_store.specs.declared.constraints.PrincipalOrResourceConstraint.TheVariants as constraint
use Rattle.cedar_policy_store.specs.Actions.{is_action, but_actions, named_entities}
use Rattle.cedar_policy_store.specs.PlaceFree.{constraint_meaning, reference_meaning as free_reference}
use Rattle.cedar_syntax.specs.declared.loc.Loc.{Loc}
use Rattle.cedar_syntax.specs.declared.cst.Add.{Add}
use Rattle.cedar_syntax.specs.declared.cst.Expr.{Expr}
use Rattle.cedar_syntax.specs.declared.cst.Ident.{Ident}
use Rattle.cedar_syntax.specs.declared.cst.Name.{Name}
use Rattle.cedar_syntax.specs.declared.cst.RelOp.{RelOp}
use Rattle.cedar_syntax.specs.declared.cst.RelOp.TheVariants as rel
use Rattle.cedar_syntax.specs.declared.cst.VariableDef.{VariableDef}
use Rattle.cedar_syntax.specs.trees.Forms.{located, add_form}
use Rattle.cedar_grammar.specs.grammar.Place.{placed}
use Rattle.cedar_grammar.specs.grammar.LooseExpressions as lx
use Rattle.cedar_grammar.specs.grammar.LooseExpressions.{ReadsAdd, ReadsExpr, ReadsRelOp}
use Rattle.cedar_grammar.specs.grammar.LoosePolicies as l
use Rattle.cedar_grammar.specs.grammar.LoosePolicies.{ReadsConstraint, ReadsEntityType, ReadsTypeName, ReadsVariableDef}
use Rattle.cedar_grammar.specs.grammar.LooseWords as lw
use Rattle.cedar_grammar.specs.grammar.LooseWords.{ReadsAny}
use Rattle.cedar_syntax.specs.tokens.Tokens.{Spot, one, any_of}
use Rattle.cedar_syntax.specs.trees.Trees.{Cell}
use Rattle.cedar_policy_conversion.specs.declared.to_ref_or_refs.OneOrMultipleRefs.{OneOrMultipleRefs}
use Rattle.cedar_policy_conversion.specs.declared.to_ref_or_refs.OneOrMultipleRefs.TheVariants as refs
use Rattle.cedar_conversion.specs.outcome.Conversion.{outcome}
use Rattle.cedar_conversion.specs.strict.Extensions.{Extensions}
use Rattle.cedar_conversion.specs.outcome.Held.{as_entity_type}
use Rattle.cedar_conversion.specs.parts.Names.{content_outcome}
use Rattle.cedar_conversion.specs.outcome.Detail.{nothing}
use Rattle.cedar_conversion.specs.outcome.Outcome.{next, is_in_action_scope}
use Rattle.cedar_policy_conversion.specs.References.{entity_or_slot, one_or_multiple, referent_outcome, single_entity}
use Rattle.cedar_policy_conversion.specs.Scope as s
use Rattle.cedar_conversion.specs.strict.Strict as m
use Rattle.cedar_policy_parser.specs.meaning.StrictScope as z
use Rattle.cedar_policy_parser.specs.meaning.StrictScope.{Asks, AsksAction}
use Rattle.cedar_conversion.specs.strict.StrictWords.{IsName, path_value}
use Rattle.cedar_conversion.proofs.Inverted.{ok_is, next_ok, if_ok, unless_ok}
use Rattle.cedar_policy_parser.proofs.sound.Bare.{held_type}
use Rattle.cedar_policy_parser.proofs.sound.Referred.{SlotOf, principal, resource, reference_meant, several_meant, single_meant, uids_of}
use Rattle.cedar_policy_parser.proofs.sound.Whole.{sound_add}

-- ---- the variable

-- the token that is a variable of a scope
pub data WordOf : Var → TokenKind → Type 0 where
  principal_word : WordOf vars.Principal kind.Principal
  action_word : WordOf vars.Action kind.Action
  resource_word : WordOf vars.Resource kind.Resource

word_as : {k : TokenKind} (x y : Var) → x ≡ y → WordOf x k → WordOf y k
word_as x y h i = rw (← h) i

kind_word : (k : TokenKind) (text : List ℕ) (place : Option Loc) (x : Var) → next (content_outcome place (any_of k text)) (s.scope_variable_of place) ≡ Ok x → WordOf x k
kind_word kind.Principal text place x h = word_as vars.Principal x (ok_is h) principal_word
kind_word kind.Action text place x h = word_as vars.Action x (ok_is h) action_word
kind_word kind.Resource text place x h = word_as vars.Resource x (ok_is h) resource_word
kind_word _ text place x h = cc

scope_word : (src : List ℕ) {ts : List Lexeme} {i : Ident} (x : Var) → ReadsAny ts i → s.scope_variable (placed src ts i) ≡ Ok x → (k : TokenKind) × (p : Spot) × WordOf x k × (ts ≡ one k p)
scope_word src {ts = ts} {i = i} x (lw.any {k = k} p h) g =
    (k, p, kind_word k p.text (placed src ts i).loc x (ap (λ o. next (content_outcome (placed src ts i).loc o) (s.scope_variable_of (placed src ts i).loc)) h ∙ g), refl)

no_type_there : {src : List ℕ} {us : List Lexeme} {x : Option (Cell Name)} (u : Unit {0}) → ReadsTypeName src us x → s.no_type_name x ≡ Ok u → us ≡ []
no_type_there u l.no_type_name h = refl
no_type_there u (l.type_name p r) h = cc

-- ---- principal and resource

-- the right side of `is`
type_meant : {src : List ℕ} {ts : List Lexeme} {x : Add} (e : Extensions) (t : EntityType) → ReadsAdd src ts x → s.type_outcome e (placed src ts x) ≡ Ok t → (ids : List (List ℕ)) × (id : List ℕ) × IsName ts ids id × (t ≡ record { name = path_value ids id })
type_meant {src = src} {ts = ts} {x = x} e t r h =
    let a = next_ok (outcome e (located add_form (placed src ts x))) as_entity_type t h in
    held_type e m.sum a.0 t (sound_add e (placed src ts x).loc a.0 r a.1) a.2

asks_as : {k : TokenKind} {ts us : List Lexeme} (c d : PrincipalOrResourceConstraint) → ts ≡ us → c ≡ d → Asks k ts (constraint_meaning c) → Asks k us (constraint_meaning d)
asks_as c d h g i = rw (← h, ← g) i

type_alone : {k : TokenKind} {src : List ℕ} {ts : List Lexeme} {x : Add} (e : Extensions) (c : PrincipalOrResourceConstraint) (p : Spot) → ReadsAdd src ts x → next (s.type_outcome e (placed src ts x)) (λ t. Ok (constraint.Is t)) ≡ Ok c
    → Asks k (one kind.Is p ++ ts) (constraint_meaning c)
type_alone {k = k} {src = src} {ts = ts} {x = x} e c p r h =
    let a = next_ok (s.type_outcome e (placed src ts x)) _ c h in
    let d = type_meant e a.0 r a.1 in
    asks_as (constraint.Is (record { name = path_value d.0 d.1 })) c refl (ap (λ t. constraint.Is t) (sym d.3) ∙ ok_is a.2) (z.to_be_of_type p d.2)

type_beside : {k : TokenKind} {src : List ℕ} {ts us : List Lexeme} {x : Add} (e : Extensions) (q : EntityReference) (c : PrincipalOrResourceConstraint) (p o : Spot) → ReadsAdd src ts x → z.IsReference k us (free_reference q) → s.type_and e q (placed src ts x) ≡ Ok c
    → Asks k ((one kind.Is p ++ ts) ++ (one kind.In o ++ us)) (constraint_meaning c)
type_beside {src = src} {ts = ts} {us = us} {x = x} e q c p o r i h =
    let a = next_ok (s.type_outcome e (placed src ts x)) _ c h in
    let d = type_meant e a.0 r a.1 in
    asks_as (constraint.IsIn (record { name = path_value d.0 d.1 }) q) c (append_assoc (one kind.Is p ++ ts) (one kind.In o) us) (ap (λ t. constraint.IsIn t q) (sym d.3) ∙ ok_is a.2) (z.to_be_of_type_in p o d.2 i)

-- an operator and what stands right of it, beside a type or none
operator_meant : {src : List ℕ} {vs ts : List Lexeme} {y : Option (Cell Add)} {j k : TokenKind} {o : RelOp} (e : Extensions) (place : Option Loc) (q : EntityReference) (c : PrincipalOrResourceConstraint) (p : Spot) → ReadsEntityType src vs y → ReadsRelOp j o
    → z.IsReference k ts (free_reference q) → s.operator_outcome e place o y q ≡ Ok c → Asks k (vs ++ (one j p ++ ts)) (constraint_meaning c)
operator_meant e place q c p l.no_entity_type lx.equal i h = asks_as (constraint.Eq q) c refl (ok_is h) (z.to_be p i)
operator_meant e place q c p l.no_entity_type lx.within i h = asks_as (constraint.In q) c refl (ok_is h) (z.to_be_in p i)
operator_meant e place q c p l.no_entity_type lx.less i h = cc
operator_meant e place q c p l.no_entity_type lx.less_eq i h = cc
operator_meant e place q c p l.no_entity_type lx.greater_eq i h = cc
operator_meant e place q c p l.no_entity_type lx.greater i h = cc
operator_meant e place q c p l.no_entity_type lx.not_eq i h = cc
operator_meant e place q c p l.no_entity_type lx.single_eq i h = cc
operator_meant e place q c p (l.entity_type t r) lx.within i h = type_beside e q c t p r i h
operator_meant e place q c p (l.entity_type t r) lx.equal i h = cc
operator_meant e place q c p (l.entity_type t r) lx.less i h = cc
operator_meant e place q c p (l.entity_type t r) lx.less_eq i h = cc
operator_meant e place q c p (l.entity_type t r) lx.greater_eq i h = cc
operator_meant e place q c p (l.entity_type t r) lx.greater i h = cc
operator_meant e place q c p (l.entity_type t r) lx.not_eq i h = cc
operator_meant e place q c p (l.entity_type t r) lx.single_eq i h = cc

asked_meant : {src : List ℕ} {vs ws : List Lexeme} {y : Option (Cell Add)} {w : Option (RelOp × Cell Expr)} {k : TokenKind} {x : Var} (e : Extensions) (place : Option Loc) (c : PrincipalOrResourceConstraint) → SlotOf x k → ReadsEntityType src vs y → ReadsConstraint src ws w
    → s.constraint_outcome e place x y w ≡ Ok c → Asks k (vs ++ ws) (constraint_meaning c)
asked_meant e place c k l.no_entity_type l.no_constraint h = asks_as constraint.Any c refl (ok_is h) z.nothing
asked_meant e place c k (l.entity_type {ts = ts} p r) l.no_constraint h = asks_as c c (sym (append-nil (one kind.Is p ++ ts))) refl (type_alone e c p r h)
asked_meant {src = src} {y = y} {x = x} e place c k t (l.constraint {ts = ts} {o = o} {x = v} p i r) h =
    let a = unless_ok (s.is_inverted e o (placed src ts v)) _ _ c h in
    let b = next_ok (referent_outcome entity_or_slot x (placed src ts v)) (s.operator_outcome e place o y) c a.1 in
    operator_meant e place b.0 c p t i (reference_meant b.0 k r b.1) b.2

same_variable : {x : Var} {k : TokenKind} → SlotOf x k → (y : Var) → s.stands_there x y ≡ true → x ≡ y
same_variable principal vars.Principal h = refl
same_variable principal vars.Action h = cc
same_variable principal vars.Resource h = cc
same_variable principal vars.Context h = cc
same_variable resource vars.Principal h = cc
same_variable resource vars.Action h = cc
same_variable resource vars.Resource h = refl
same_variable resource vars.Context h = cc

-- the word of an element, and what stands behind it
pub record ElementMeant (x : Var) (k : TokenKind) (ts : List Lexeme) (c : PrincipalOrResourceConstraint) : Type 0 where
  pub word : TokenKind
  pub spot : Spot
  pub rest : List Lexeme
  pub is_word : WordOf x word
  pub together : ts ≡ one word spot ++ rest
  pub asks : Asks k rest (constraint_meaning c)

element_at : {x y : Var} {k j : TokenKind} {ts us rest : List Lexeme} {c d : PrincipalOrResourceConstraint} (p : Spot) → x ≡ y → WordOf y j → ts ≡ one j p → us ≡ [] → d ≡ c → Asks k rest (constraint_meaning d) → ElementMeant x k (ts ++ (us ++ rest)) c
element_at {j = j} {rest = rest} {c = c} {d = d} p same w h none e i =
    record { word = j; spot = p; rest = rest; is_word = rw same w; together = rw (h, none) refl; asks = asks_as d c refl e i }

asked_same : (e : Extensions) (place : Option Loc) (x z : Var) (y : Option (Cell Add)) (w : Option (RelOp × Cell Expr)) (c : PrincipalOrResourceConstraint) → x ≡ z → s.constraint_outcome e place z y w ≡ Ok c → s.constraint_outcome e place x y w ≡ Ok c
asked_same e place x z y w c same h = rw same h

pub element_meant : {src : List ℕ} {ts : List Lexeme} {d : VariableDef} {x : Var} {k : TokenKind} (e : Extensions) (c : PrincipalOrResourceConstraint) → SlotOf x k → ReadsVariableDef src ts d → s.element_outcome e x (placed src ts d) ≡ Ok c
    → ElementMeant x k ts c
element_meant {src = src} {ts = all} {x = x} e c k (l.variable_def {ts = ts} {us = us} {vs = vs} {ws = ws} {i = i} {x = t} {y = y} {z = w} r nr yr wr) h =
    let d : VariableDef = record { variable = placed src ts i; unused_type_name = t; entity_type = y; ineq = w } in
    let place = (placed src all d).loc in
    let a = next_ok (s.element_variable d) _ c h in
    let b = next_ok (s.scope_variable (placed src ts i)) _ a.0 a.1 in
    let f = next_ok (s.no_type_name t) _ a.0 b.2 in
    let g = next_ok (s.constraint_outcome e place a.0 y w) _ c a.2 in
    let there = if_ok (s.stands_there x a.0) (Ok g.0) _ c g.2 in
    let same = same_variable k a.0 there.0 in
    let word = scope_word src b.0 r b.1 in
    let asked = asked_same e place x a.0 y w g.0 same g.1 in
    element_at word.1 (same ∙ sym (ok_is f.2)) word.2 word.3 (no_type_there f.0 nr f.1) (ok_is there.1) (asked_meant e place g.0 k yr wr asked)

-- ---- action

one_action : (b : Bool) (uid : EntityUID) (uids : List EntityUID) → is_action uid ≡ b → (but_actions uids ≡ [] → list_all is_action uids ≡ true) → cond (not b) (uid ∷ but_actions uids) (but_actions uids) ≡ [] → list_all is_action (uid ∷ uids) ≡ true
one_action true uid uids e more k = rw (e, more k) refl
one_action false uid uids e more k = cc

no_actions : (uids : List EntityUID) → but_actions uids ≡ [] → list_all is_action uids ≡ true
no_actions [] h = refl
no_actions (uid ∷ uids) h = one_action (is_action uid) uid uids refl (λ k. no_actions uids k) h

others_none : (place : Option Loc) (c d : ActionConstraint) (uids : List EntityUID) → s.unless_others place c uids ≡ Ok d → (uids ≡ []) × (c ≡ d)
others_none place c d [] h = (refl, ok_is h)
others_none place c d (uid ∷ uids) h = cc

pub within_is : (r : OneOrMultipleRefs) → s.within r ≡ action.In (uids_of r)
within_is (refs.Single uid) = refl
within_is (refs.Multiple uids) = refl

asks_action_as : {ts us : List Lexeme} (c d : ActionConstraint) → ts ≡ us → c ≡ d → AsksAction ts c → AsksAction us d
asks_action_as c d h g i = rw (← h, ← g) i

action_in_meant : {src : List ℕ} {ts : List Lexeme} {x : Expr} (e : Extensions) (place at : Option Loc) (c d : ActionConstraint) (p : Spot) → ReadsExpr src ts x → s.action_in e place (placed src ts x) ≡ Ok c → s.only_actions at c ≡ Ok d → AsksAction (one kind.In p ++ ts) d
action_in_meant {src = src} {ts = ts} {x = x} e place at c d p r h g =
    let a = unless_ok (s.is_inverted e rel.In (placed src ts x)) (next (referent_outcome one_or_multiple vars.Action (placed src ts x)) (λ all. Ok (s.within all))) ((is_in_action_scope, place, nothing) ∷ []) c h in
    let b = next_ok (referent_outcome one_or_multiple vars.Action (placed src ts x)) (λ all. Ok (s.within all)) c a.1 in
    let same : c ≡ action.In (uids_of b.0) = sym (ok_is b.2) ∙ within_is b.0 in
    let o = others_none at c d (but_actions (named_entities c)) g in
    let all : but_actions (uids_of b.0) ≡ [] = sym (ap (λ k. but_actions (named_entities k)) same) ∙ o.0 in
    asks_action_as (action.In (uids_of b.0)) d refl (sym same ∙ o.1) (z.to_be_in p (several_meant vars.Action b.0 r b.1) (no_actions (uids_of b.0) all))

alone_true : (uid : EntityUID) → list_all is_action (uid ∷ []) ≡ true → is_action uid ≡ true
alone_true uid h = first_true (is_action uid) true h
  where
    first_true : (b c : Bool) → (b && c) ≡ true → b ≡ true
    first_true true c h = refl
    first_true false c h = cc

action_eq_meant : {src : List ℕ} {ts : List Lexeme} {x : Expr} (at : Option Loc) (c d : ActionConstraint) (p : Spot) → ReadsExpr src ts x → s.action_eq (placed src ts x) ≡ Ok c → s.only_actions at c ≡ Ok d → AsksAction (one kind.EqEq p ++ ts) d
action_eq_meant {src = src} {ts = ts} {x = x} at c d p r h g =
    let b = next_ok (referent_outcome single_entity vars.Action (placed src ts x)) _ c h in
    let same : c ≡ action.Eq b.0.0 = sym (ok_is b.2) in
    let o = others_none at c d (but_actions (named_entities c)) g in
    let all : but_actions (b.0.0 ∷ []) ≡ [] = sym (ap (λ k. but_actions (named_entities k)) same) ∙ o.0 in
    asks_action_as (action.Eq b.0.0) d refl (sym same ∙ o.1) (z.to_be p (single_meant vars.Action b.0 r b.1) (alone_true b.0.0 (no_actions (b.0.0 ∷ []) all)))

action_asked_meant : {src : List ℕ} {ws : List Lexeme} {w : Option (RelOp × Cell Expr)} (e : Extensions) (place : Option Loc) (d : ActionConstraint) → ReadsConstraint src ws w → s.asked_action e place w ≡ Ok d → AsksAction ws d
action_asked_meant e place d l.no_constraint h = asks_action_as action.Any d refl (ok_is h) z.nothing
action_asked_meant {src = src} e place d (l.constraint {ts = ts} {x = x} p lx.within r) h = let a = next_ok (s.action_in e place (placed src ts x)) _ d h in action_in_meant e place (placed src ts x).loc a.0 d p r a.1 a.2
action_asked_meant {src = src} e place d (l.constraint {ts = ts} {x = x} p lx.equal r) h = let a = next_ok (s.action_eq (placed src ts x)) _ d h in action_eq_meant (placed src ts x).loc a.0 d p r a.1 a.2
action_asked_meant e place d (l.constraint p lx.less r) h = cc
action_asked_meant e place d (l.constraint p lx.less_eq r) h = cc
action_asked_meant e place d (l.constraint p lx.greater_eq r) h = cc
action_asked_meant e place d (l.constraint p lx.greater r) h = cc
action_asked_meant e place d (l.constraint p lx.not_eq r) h = cc
action_asked_meant e place d (l.constraint p lx.single_eq r) h = cc

is_the_action : {k : TokenKind} (place : Option Loc) (x : Var) (u : Unit {0}) → WordOf x k → s.action_alone place x ≡ Ok u → k ≡ kind.Action
is_the_action place _ u principal_word h = cc
is_the_action place _ u action_word h = refl
is_the_action place _ u resource_word h = cc

no_is_there : {src : List ℕ} {vs : List Lexeme} {y : Option (Cell Add)} (place : Option Loc) (u : Unit {0}) → ReadsEntityType src vs y → s.no_entity_type place y ≡ Ok u → vs ≡ []
no_is_there place u l.no_entity_type h = refl
no_is_there place u (l.entity_type p r) h = cc

pub record ActionMeant (ts : List Lexeme) (c : ActionConstraint) : Type 0 where
  pub spot : Spot
  pub rest : List Lexeme
  pub together : ts ≡ one kind.Action spot ++ rest
  pub asks : AsksAction rest c

action_at : {k : TokenKind} {ts us vs rest : List Lexeme} {c : ActionConstraint} (p : Spot) → k ≡ kind.Action → ts ≡ one k p → us ≡ [] → vs ≡ [] → AsksAction rest c → ActionMeant (ts ++ (us ++ (vs ++ rest))) c
action_at {rest = rest} p same h none bare i = record { spot = p; rest = rest; together = rw (h, same, none, bare) refl; asks = i }

pub action_meant : {src : List ℕ} {ts : List Lexeme} {d : VariableDef} (e : Extensions) (c : ActionConstraint) → ReadsVariableDef src ts d → s.action_outcome e (placed src ts d) ≡ Ok c → ActionMeant ts c
action_meant {src = src} {ts = all} e c (l.variable_def {ts = ts} {us = us} {vs = vs} {ws = ws} {i = i} {x = t} {y = y} {z = w} r nr yr wr) h =
    let d : VariableDef = record { variable = placed src ts i; unused_type_name = t; entity_type = y; ineq = w } in
    let place = (placed src all d).loc in
    let a = next_ok (s.action_variable place d) _ c h in
    let b = next_ok (s.scope_variable (placed src ts i)) _ a.0 a.1 in
    let f = next_ok (s.action_alone place b.0) _ a.0 b.2 in
    let g = next_ok (s.no_type_name t) _ a.0 f.2 in
    let word = scope_word src b.0 r b.1 in
    action_at word.1 (is_the_action place b.0 f.0 word.2 f.1) word.3 (no_type_there g.0 nr g.1) (no_is_there place a.0 yr g.2) (action_asked_meant e place c wr a.2)

-- An element of a scope has a tree that asks for it.
use Rattle.std.proofs.Common.{◌≡◌, ℕ, Bool, true, false, ◌&&◌, List, [], ◌∷◌, ◌++◌, append-nil, append_assoc, Option, Some, None, Ok, refl, sym, ap, ◌∙◌}
use Rattle.std.specs.List.{list_all}
use Rattle.cedar_lexer.specs.Token.{Lexeme}
use Rattle.cedar_lexer.specs.declared.token.TokenKind.{TokenKind}
use Rattle.cedar_lexer.specs.declared.token.TokenKind.TheVariants as kind
use Rattle.cedar_expressions.specs.declared.entity.EntityType.{EntityType}
use Rattle.cedar_expressions.specs.declared.entity.EntityUID.{EntityUID}
use Rattle.cedar_expressions.specs.declared.atoms.Var.{Var}
use Rattle.cedar_expressions.specs.declared.atoms.Var.TheVariants as vars
use Rattle.cedar_policy_store.specs.declared.constraints.ActionConstraint.{ActionConstraint}
use Rattle.cedar_policy_store.specs.declared.constraints.ActionConstraint.TheVariants as action
use Rattle.cedar_policy_store.specs.declared.constraints.EntityReference.{EntityReference}
use Rattle.cedar_policy_store.specs.declared.constraints.PrincipalOrResourceConstraint.{PrincipalOrResourceConstraint}
use Rattle.cedar_policy_store.specs.declared.constraints.PrincipalOrResourceConstraint.TheVariants as constraint
use Rattle.cedar_policy_store.specs.Actions.{is_action, but_actions, named_entities}
use Rattle.cedar_policy_store.specs.PlaceFree as free
use Rattle.cedar_policy_store.specs.PlaceFree.{Constraint, constraint_meaning}
use Rattle.cedar_syntax.specs.declared.loc.Loc.{Loc}
use Rattle.cedar_syntax.specs.declared.cst.Add.{Add}
use Rattle.cedar_syntax.specs.declared.cst.Expr.{Expr}
use Rattle.cedar_syntax.specs.declared.cst.Ident.TheVariants as ident
use Rattle.cedar_syntax.specs.declared.cst.RelOp.{RelOp}
use Rattle.cedar_syntax.specs.declared.cst.RelOp.TheVariants as rel
use Rattle.cedar_syntax.specs.declared.cst.VariableDef.{VariableDef}
use Rattle.cedar_grammar.specs.grammar.LooseExpressions as lx
use Rattle.cedar_grammar.specs.grammar.LoosePolicies as l
use Rattle.cedar_grammar.specs.grammar.LoosePolicies.{ReadsConstraint, ReadsEntityType, ReadsVariableDef}
use Rattle.cedar_grammar.specs.grammar.LooseWords as lw
use Rattle.cedar_grammar.specs.grammar.Place.{placed}
use Rattle.cedar_syntax.specs.tokens.Tokens.{Spot, one}
use Rattle.cedar_syntax.specs.trees.Trees.{Cell, variable_def_of}
use Rattle.cedar_policy_conversion.specs.declared.to_ref_or_refs.OneOrMultipleRefs.{OneOrMultipleRefs}
use Rattle.cedar_policy_conversion.specs.declared.to_ref_or_refs.SingleEntity.{SingleEntity}
use Rattle.cedar_conversion.specs.strict.Extensions.{Extensions}
use Rattle.cedar_conversion.specs.outcome.Held.{type_of_name}
use Rattle.cedar_conversion.specs.outcome.Outcome.{Outcome, next}
use Rattle.cedar_policy_conversion.specs.References.{entity_or_slot, one_or_multiple, referent_outcome, single_entity}
use Rattle.cedar_policy_conversion.specs.Scope as s
use Rattle.cedar_policy_parser.specs.meaning.StrictScope as z
use Rattle.cedar_policy_parser.specs.meaning.StrictScope.{Asks, AsksAction}
use Rattle.cedar_conversion.specs.strict.StrictWords.{path_value}
use Rattle.cedar_policy_parser.proofs.complete.Lone.{type_read}
use Rattle.cedar_policy_parser.proofs.complete.Referred.{actions_read, reference_read, single_read}
use Rattle.cedar_policy_parser.proofs.sound.Elements.{within_is}
use Rattle.cedar_policy_parser.proofs.sound.Referred.{SlotOf, principal, resource, uids_of}

-- ---- principal and resource

-- the token that is a variable's word
abbrev pub word_of : {x : Var} {k : TokenKind} → SlotOf x k → TokenKind
word_of principal = kind.Principal
word_of resource = kind.Resource

pub record ElementRead (e : Extensions) (x : Var) (src : List ℕ) (ts : List Lexeme) (c : Constraint) : Type 0 where
  pub tree : VariableDef
  pub reads : ReadsVariableDef src ts tree
  pub asked : PrincipalOrResourceConstraint
  pub same : constraint_meaning asked ≡ c
  pub gives : s.element_outcome e x (placed src ts tree) ≡ Ok asked

element_as : {e : Extensions} {x : Var} {src : List ℕ} {ts us : List Lexeme} {c : Constraint} → ts ≡ us → ElementRead e x src ts c → ElementRead e x src us c
element_as h d = rw (← h) d

-- an element by its type and its constraint
built : {x : Var} {k : TokenKind} (e : Extensions) (src : List ℕ) (p : Spot) (vs ws : List Lexeme) (y : Option (Cell Add)) (w : Option (RelOp × Cell Expr)) (c : PrincipalOrResourceConstraint) (i : SlotOf x k) → ReadsEntityType src vs y → ReadsConstraint src ws w
    → ((place : Option Loc) → s.constraint_outcome e place x y w ≡ Ok c) → ElementRead e x src (one (word_of i) p ++ (vs ++ ws)) (constraint_meaning c)
built e src p vs ws y w c principal r t h =
    let d = variable_def_of (placed src (one kind.Principal p) ident.Principal) None y w in
    let place = (placed src (one kind.Principal p ++ (vs ++ ws)) d).loc in
    record { tree = d; reads = l.variable_def (lw.any p refl) l.no_type_name r t; asked = c; same = refl; gives = ap (λ o. next o (s.in_its_place place vars.Principal vars.Principal)) (h place) }
built e src p vs ws y w c resource r t h =
    let d = variable_def_of (placed src (one kind.Resource p) ident.Resource) None y w in
    let place = (placed src (one kind.Resource p ++ (vs ++ ws)) d).loc in
    record { tree = d; reads = l.variable_def (lw.any p refl) l.no_type_name r t; asked = c; same = refl; gives = ap (λ o. next o (s.in_its_place place vars.Resource vars.Resource)) (h place) }

asked_given : (e : Extensions) (place : Option Loc) (x : Var) (y : Option (Cell Add)) (o : RelOp) (n : Cell Expr) (r : EntityReference) (c : PrincipalOrResourceConstraint) → s.is_inverted e o n ≡ false → referent_outcome entity_or_slot x n ≡ Ok r → s.operator_outcome e place o y r ≡ Ok c
    → s.constraint_outcome e place x y (Some (o, n)) ≡ Ok c
asked_given e place x y o n r c h k g = rw (h, k) g

typed_given : (o : Outcome EntityType) (t : EntityType) → o ≡ Ok t → next o (λ u. Ok (constraint.Is u)) ≡ Ok (constraint.Is t)
typed_given o t h = rw h refl

both_given : (o : Outcome EntityType) (t : EntityType) (r : EntityReference) → o ≡ Ok t → next o (λ u. Ok (constraint.IsIn u r)) ≡ Ok (constraint.IsIn t r)
both_given o t r h = rw h refl

same_as : {e : Extensions} {x : Var} {src : List ℕ} {ts : List Lexeme} {c d : Constraint} → c ≡ d → ElementRead e x src ts c → ElementRead e x src ts d
same_as h d = rw (← h) d

pub element_read : {x : Var} {k : TokenKind} (e : Extensions) (src : List ℕ) (p : Spot) {ts : List Lexeme} {c : Constraint} (i : SlotOf x k) → Asks k ts c → ElementRead e x src (one (word_of i) p ++ ts) c
element_read e src p i z.nothing = built e src p [] [] None None constraint.Any i l.no_entity_type l.no_constraint (λ place. refl)
element_read {x = x} e src p i (z.to_be {ts = ts} q r) =
    let d = reference_read e src i r in
    let n = placed src ts d.read.tree in
    same_as (ap free.equal_to d.same) (built e src p [] (one kind.EqEq q ++ ts) None (Some (rel.Eq, n)) (constraint.Eq d.placed_reference) i l.no_entity_type (l.constraint q lx.equal d.read.reads)
    (λ place. asked_given e place x None rel.Eq n d.placed_reference (constraint.Eq d.placed_reference) refl (d.read.gives n.loc) refl))
element_read {x = x} e src p i (z.to_be_in {ts = ts} q r) =
    let d = reference_read e src i r in
    let n = placed src ts d.read.tree in
    same_as (ap free.inside d.same) (built e src p [] (one kind.In q ++ ts) None (Some (rel.In, n)) (constraint.In d.placed_reference) i l.no_entity_type (l.constraint q lx.within d.read.reads)
    (λ place. asked_given e place x None rel.In n d.placed_reference (constraint.In d.placed_reference) (d.read.plain n.loc) (d.read.gives n.loc) refl))
element_read e src p i (z.to_be_of_type {ts = ts} {ids = ids} {id = id} q n) =
    let t = type_read e src n in
    let y = placed src ts t.tree in
    element_as (ap (λ us. one (word_of i) p ++ us) (append-nil (one kind.Is q ++ ts))) (built e src p (one kind.Is q ++ ts) [] (Some y) None (constraint.Is (type_of_name (path_value ids id))) i (l.entity_type q t.reads) l.no_constraint
    (λ place. typed_given (s.type_outcome e y) (type_of_name (path_value ids id)) (t.gives y.loc)))
element_read {x = x} e src p i (z.to_be_of_type_in {ts = ts} {us = us} {ids = ids} {id = id} q o n r) =
    let t = type_read e src n in
    let y = placed src ts t.tree in
    let d = reference_read e src i r in
    let m = placed src us d.read.tree in
    let c = constraint.IsIn (type_of_name (path_value ids id)) d.placed_reference in
    element_as (ap (λ vs. one (word_of i) p ++ vs) (sym (append_assoc (one kind.Is q ++ ts) (one kind.In o) us)))
    (same_as (ap (free.typed_inside (type_of_name (path_value ids id))) d.same) (built e src p (one kind.Is q ++ ts) (one kind.In o ++ us) (Some y) (Some (rel.In, m)) c i (l.entity_type q t.reads) (l.constraint o lx.within d.read.reads)
    (λ place. asked_given e place x (Some y) rel.In m d.placed_reference c (d.read.plain m.loc) (d.read.gives m.loc) (both_given (s.type_outcome e y) (type_of_name (path_value ids id)) d.placed_reference (t.gives y.loc)))))

-- ---- action

pub record ActionRead (e : Extensions) (src : List ℕ) (ts : List Lexeme) (c : ActionConstraint) : Type 0 where
  pub tree : VariableDef
  pub reads : ReadsVariableDef src ts tree
  pub gives : s.action_outcome e (placed src ts tree) ≡ Ok c

one_other : (b : Bool) (uid : EntityUID) (uids : List EntityUID) → is_action uid ≡ b → (list_all is_action uids ≡ true → but_actions uids ≡ []) → (b && list_all is_action uids) ≡ true → but_actions (uid ∷ uids) ≡ []
one_other true uid uids e more k = rw e (more k)
one_other false uid uids e more k = cc

no_others : (uids : List EntityUID) → list_all is_action uids ≡ true → but_actions uids ≡ []
no_others [] h = refl
no_others (uid ∷ uids) h = one_other (is_action uid) uid uids refl (λ k. no_others uids k) h

action_built : (e : Extensions) (src : List ℕ) (p : Spot) (ws : List Lexeme) (w : Option (RelOp × Cell Expr)) (c : ActionConstraint) → ReadsConstraint src ws w → ((place : Option Loc) → s.asked_action e place w ≡ Ok c) → ActionRead e src (one kind.Action p ++ ws) c
action_built e src p ws w c t h =
    let d = variable_def_of (placed src (one kind.Action p) ident.Action) None None w in
    record { tree = d; reads = l.variable_def (lw.any p refl) l.no_type_name l.no_entity_type t; gives = h (placed src (one kind.Action p ++ ws) d).loc }

only_given : (at : Option Loc) (o : Outcome ActionConstraint) (c : ActionConstraint) → o ≡ Ok c → but_actions (named_entities c) ≡ [] → next o (s.only_actions at) ≡ Ok c
only_given at o c h k = rw (h, k) refl

eq_given : (o : Outcome SingleEntity) (uid : EntityUID) → o ≡ Ok (single_entity.single uid) → next o (λ one. Ok (s.equal_to one)) ≡ Ok (action.Eq uid)
eq_given o uid h = rw h refl

in_given : (e : Extensions) (place : Option Loc) (n : Cell Expr) (all : OneOrMultipleRefs) (uids : List EntityUID) → s.is_inverted e rel.In n ≡ false → referent_outcome one_or_multiple vars.Action n ≡ Ok all → uids_of all ≡ uids → s.action_in e place n ≡ Ok (action.In uids)
in_given e place n all uids h k g = rw (h, k) (ap Ok (within_is all ∙ ap action.In g))

pub action_read : (e : Extensions) (src : List ℕ) (p : Spot) {ts : List Lexeme} {c : ActionConstraint} → AsksAction ts c → ActionRead e src (one kind.Action p ++ ts) c
action_read e src p z.nothing = action_built e src p [] None action.Any l.no_constraint (λ place. refl)
action_read e src p (z.to_be {ts = ts} {uid = uid} q i is) =
    let d = single_read e src vars.Action i in
    let n = placed src ts d.tree in
    let only : list_all is_action (uid ∷ []) ≡ true = rw is refl in
    action_built e src p (one kind.EqEq q ++ ts) (Some (rel.Eq, n)) (action.Eq uid) (l.constraint q lx.equal d.reads)
    (λ place. only_given n.loc (s.action_eq n) (action.Eq uid) (eq_given (referent_outcome single_entity vars.Action n) uid (d.gives n.loc)) (no_others (uid ∷ []) only))
action_read e src p (z.to_be_in {ts = ts} {uids = uids} q i all) =
    let d = actions_read e vars.Action src i in
    let n = placed src ts d.read.tree in
    action_built e src p (one kind.In q ++ ts) (Some (rel.In, n)) (action.In uids) (l.constraint q lx.within d.read.reads)
    (λ place. only_given n.loc (s.action_in e place n) (action.In uids) (in_given e place n d.all uids (d.read.plain n.loc) (d.read.gives n.loc) d.same) (no_others uids all))

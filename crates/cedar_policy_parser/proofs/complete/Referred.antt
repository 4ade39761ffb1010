-- Entities, slots and sets of entities have a tree that refers to them.
use Rattle.std.proofs.Common.{◌≡◌, ℕ, List, [], ◌∷◌, ◌++◌, map, Option, Ok, Err, false, refl, sym, ap, ◌∙◌}
use Rattle.cedar_lexer.specs.Token.{Lexeme}
use Rattle.cedar_lexer.specs.declared.token.TokenKind.{TokenKind}
use Rattle.cedar_lexer.specs.declared.token.TokenKind.TheVariants as kind
use Rattle.cedar_expressions.specs.declared.entity.EntityUID.{EntityUID}
use Rattle.cedar_expressions.specs.declared.atoms.Literal.TheVariants as literals
use Rattle.cedar_expressions.specs.Value as v
use Rattle.cedar_expressions.specs.declared.atoms.Var.{Var}
use Rattle.cedar_expressions.specs.declared.atoms.Var.TheVariants as vars
use Rattle.cedar_policy_store.specs.declared.constraints.EntityReference.{EntityReference}
use Rattle.cedar_policy_store.specs.declared.constraints.EntityReference.TheVariants as reference
use Rattle.cedar_policy_store.specs.PlaceFree as free
use Rattle.cedar_policy_store.specs.PlaceFree.{Reference}
use Rattle.cedar_syntax.specs.declared.loc.Loc.{Loc}
use Rattle.cedar_syntax.specs.declared.cst.Expr.{Expr}
use Rattle.cedar_syntax.specs.declared.cst.Primary.{Primary}
use Rattle.cedar_syntax.specs.declared.cst.Primary as P
use Rattle.cedar_syntax.specs.declared.cst.Ref.{Ref}
use Rattle.cedar_syntax.specs.declared.cst.Slot.{Slot}
use Rattle.cedar_syntax.specs.declared.cst.Slot.TheVariants as slot
use Rattle.cedar_syntax.specs.trees.Forms.{located, parts_of, expr_form, primary_form, listed_expr}
use Rattle.cedar_syntax.specs.trees.Located.{Form, at}
use Rattle.cedar_syntax.proofs.FormLevels.{primary_ref, primary_slot, primary_list}
use Rattle.cedar_grammar.specs.grammar.LooseExpressions as l
use Rattle.cedar_grammar.specs.grammar.LooseExpressions.{ReadsExprs, ReadsExprItems, ReadsPrimary}
use Rattle.cedar_grammar.specs.grammar.Place.{placed}
use Rattle.cedar_syntax.specs.tokens.Tokens.{Spot, one}
use Rattle.cedar_syntax.specs.trees.Trees.{Cell}
use Rattle.cedar_policy_conversion.specs.declared.to_ref_or_refs.OneOrMultipleRefs.{OneOrMultipleRefs}
use Rattle.cedar_policy_conversion.specs.declared.to_ref_or_refs.OneOrMultipleRefs.TheVariants as refs
use Rattle.cedar_conversion.specs.outcome.Conversion.{Part, operands, outcome, set_value_outcome}
use Rattle.cedar_conversion.specs.parts.Entities.{entity_outcome}
use Rattle.cedar_conversion.specs.strict.Extensions.{Extensions}
use Rattle.cedar_conversion.specs.outcome.Held.{as_expression, expression}
use Rattle.cedar_conversion.specs.outcome.Outcome.{Outcome, both, next, item_more}
use Rattle.cedar_policy_conversion.specs.References.{RefKind, entities, entity_at, entity_form, entity_or_slot, lone, lone_form, lone_entity, one_or_multiple, referent_at, referred_form, single_entity}
use Rattle.cedar_conversion.specs.outcome.Places.{place_mark}
use Rattle.cedar_policy_conversion.specs.Scope.{is_made_by_is}
use Rattle.cedar_policy_parser.specs.meaning.StrictScope as m
use Rattle.cedar_policy_parser.specs.meaning.StrictScope.{AreActions, AreEntities, IsEntityAlone, IsEntityList, IsReference}
use Rattle.cedar_conversion.specs.strict.StrictWords.{IsEntity}
use Rattle.cedar_conversion.proofs.Loops.{map_snoc}
use Rattle.cedar_policy_parser.proofs.Made.{gives_referred, gives_set, gives_slot}
use Rattle.cedar_policy_parser.proofs.MadeLones as made
use Rattle.cedar_policy_conversion.proofs.ReferredNodes.{entities_snoc}
use Rattle.cedar_policy_parser.proofs.complete.Lones.{LoneAs, alone_as, in_parentheses}
use Rattle.cedar_policy_parser.proofs.complete.Words.{entity_read}
use Rattle.cedar_policy_parser.proofs.sound.Referred.{SlotOf, principal, resource, uids_of}

-- ---- primaries that are themselves

ref_alone : (p : Option Loc) (x : Cell Ref) → lone (at p (primary_form (P.Ref x))) ≡ Ok (at p (primary_form (P.Ref x)))
unfolding lone_form
ref_alone p x = made.lone_at p _ _ (primary_ref x) ∙ ap (λ t. Ok (at p t)) (sym (primary_ref x))

slot_alone : (p : Option Loc) (x : Cell Slot) → lone (at p (primary_form (P.Slot x))) ≡ Ok (at p (primary_form (P.Slot x)))
unfolding lone_form
slot_alone p x = made.lone_at p _ _ (primary_slot x) ∙ ap (λ t. Ok (at p t)) (sym (primary_slot x))

list_alone : (p : Option Loc) (xs : List (Cell Expr)) → lone (at p (primary_form (P.EList xs))) ≡ Ok (at p (primary_form (P.EList xs)))
unfolding lone_form
list_alone p xs = made.lone_at p _ _ (primary_list xs) ∙ ap (λ t. Ok (at p t)) (sym (primary_list xs))

referred_form_at : {T : Type 0} (k : RefKind T) (x : Var) (p : Option Loc) (t u : Form) → t ≡ u → referent_at k x (at p t) ≡ referred_form k x p u
referred_form_at k x p t u h = ap (referred_form k x p) h

entity_form_at : (p : Option Loc) (t u : Form) → t ≡ u → entity_at (at p t) ≡ entity_form p u
entity_form_at p t u h = ap (entity_form p) h

-- ---- `is` makes none of them

entity_plain : (e : Extensions) (p : Option Loc) (y : Cell Ref) (uid : EntityUID) → entity_outcome y ≡ Ok uid → is_made_by_is (next (outcome e (at p (primary_form (P.Ref y)))) as_expression) ≡ false
entity_plain e p y uid h = ap (λ o. is_made_by_is (next o as_expression)) (gives_referred e p y ∙ ap (λ o. next o (λ u. Ok (expression y.loc (v.val (literals.EntityUID u))))) h)

listed_plain : (p : Option Loc) (o : Outcome (List Part)) → is_made_by_is (next (next o (set_value_outcome p)) as_expression) ≡ false
listed_plain p (Ok ps) = refl
listed_plain p (Err fs) = refl

set_plain : (e : Extensions) (p : Option Loc) (xs : List (Cell Expr)) → is_made_by_is (next (outcome e (at p (primary_form (P.EList xs)))) as_expression) ≡ false
set_plain e p xs = ap (λ o. is_made_by_is (next o as_expression)) (gives_set e p xs) ∙ listed_plain p (operands e p (parts_of (map listed_expr xs)))

-- ---- an entity

-- an entity where a kind of reference is wanted
entity_as : {T : Type 0} (e : Extensions) (k : RefKind T) (x : Var) (src : List ℕ) {ts : List Lexeme} {uid : EntityUID} → IsEntity ts uid → LoneAs e src ts (referent_at k x) (k.single uid)
entity_as e k x src {ts = ts} {uid = uid} i =
    let d = entity_read src i in
    let y = placed src ts d.tree in
    let made_of : entity_outcome y ≡ Ok uid = d.gives y.loc in
    alone_as e src ts (referent_at k x) (k.single uid) (P.Ref y) (l.referred d.reads) (ref_alone _ y)
    (referred_form_at k x _ _ _ (primary_ref y) ∙ ap (λ o. next o (λ u. Ok (k.single u))) made_of) (entity_plain e _ y uid made_of)

entity_alone_as : (e : Extensions) (src : List ℕ) {ts : List Lexeme} {uid : EntityUID} → IsEntity ts uid → LoneAs e src ts entity_at uid
entity_alone_as e src {ts = ts} {uid = uid} i =
    let d = entity_read src i in
    let y = placed src ts d.tree in
    alone_as e src ts entity_at uid (P.Ref y) (l.referred d.reads) (ref_alone _ y) (entity_form_at _ _ _ (primary_ref y) ∙ d.gives y.loc) (entity_plain e _ y uid (d.gives y.loc))

pub lone_entity_read : (e : Extensions) (src : List ℕ) {ts : List Lexeme} {uid : EntityUID} → IsEntityAlone ts uid → LoneAs e src ts entity_at uid
lone_entity_read e src (m.bare_entity i) = entity_alone_as e src i
lone_entity_read e src (m.entity_in_parentheses {uid = uid} a b i) = in_parentheses e src entity_at uid a b (lone_entity_read e src i)

pub single_read : (e : Extensions) (src : List ℕ) {ts : List Lexeme} {uid : EntityUID} (x : Var) → IsEntityAlone ts uid → LoneAs e src ts (referent_at single_entity x) (single_entity.single uid)
single_read e src x (m.bare_entity i) = entity_as e single_entity x src i
single_read e src x (m.entity_in_parentheses {uid = uid} a b i) = in_parentheses e src (referent_at single_entity x) (single_entity.single uid) a b (single_read e src x i)

-- ---- an entity or the variable's slot

-- a reference is one with a place for a slot
pub record ReferenceRead (e : Extensions) (x : Var) (src : List ℕ) (ts : List Lexeme) (r : Reference) : Type 0 where
  pub placed_reference : EntityReference
  pub same : free.reference_meaning placed_reference ≡ r
  pub read : LoneAs e src ts (referent_at entity_or_slot x) placed_reference

slot_read : {x : Var} {k : TokenKind} (e : Extensions) (src : List ℕ) (p : Spot) → SlotOf x k → ReferenceRead e x src (one k p) free.own_slot
slot_read e src p principal =
    let y = placed src (one kind.PrincipalSlot p) slot.Principal in
    record {
      placed_reference = reference.Slot (place_mark (placed src (one kind.PrincipalSlot p) (P.Slot y)).loc);
      same = refl;
      read = alone_as e src (one kind.PrincipalSlot p) (referent_at entity_or_slot vars.Principal) _ (P.Slot y) (l.slotted p l.principal_slot) (slot_alone _ y) (referred_form_at entity_or_slot vars.Principal _ _ _ (primary_slot y)) (ap (λ o. is_made_by_is (next o as_expression)) (gives_slot e _ y));
    }
slot_read e src p resource =
    let y = placed src (one kind.ResourceSlot p) slot.Resource in
    record {
      placed_reference = reference.Slot (place_mark (placed src (one kind.ResourceSlot p) (P.Slot y)).loc);
      same = refl;
      read = alone_as e src (one kind.ResourceSlot p) (referent_at entity_or_slot vars.Resource) _ (P.Slot y) (l.slotted p l.resource_slot) (slot_alone _ y) (referred_form_at entity_or_slot vars.Resource _ _ _ (primary_slot y)) (ap (λ o. is_made_by_is (next o as_expression)) (gives_slot e _ y));
    }

pub reference_read : {x : Var} {k : TokenKind} (e : Extensions) (src : List ℕ) {ts : List Lexeme} {r : Reference} → SlotOf x k → IsReference k ts r → ReferenceRead e x src ts r
reference_read {x = x} e src s (m.to_entity {uid = uid} i) = record { placed_reference = reference.EUID uid; same = refl; read = entity_as e entity_or_slot x src i }
reference_read e src s (m.to_slot p) = slot_read e src p s
reference_read {x = x} e src s (m.in_parentheses a b i) =
    let d = reference_read e src s i in
    record { placed_reference = d.placed_reference; same = d.same; read = in_parentheses e src (referent_at entity_or_slot x) d.placed_reference a b d.read }

-- ---- entities of a set

record ItemsRead (src : List ℕ) (ts : List Lexeme) (uids : List EntityUID) : Type 0 where
  cells : List (Cell Expr)
  reads : ReadsExprItems src ts cells
  give : entities (parts_of (map listed_expr cells)) ≡ Ok uids

record ListRead (src : List ℕ) (ts : List Lexeme) (uids : List EntityUID) : Type 0 where
  cells : List (Cell Expr)
  reads : ReadsExprs src ts cells
  give : entities (parts_of (map listed_expr cells)) ≡ Ok uids

more_given : {X : Type 0} (o : Outcome (List X)) (x : Outcome X) (ys : List X) (y : X) → o ≡ Ok ys → x ≡ Ok y → item_more o x ≡ Ok (ys ++ y ∷ [])
more_given o x ys y h k = rw (h, k) refl

one_given : (x : Outcome EntityUID) (y : EntityUID) → x ≡ Ok y → next (both x (Ok [])) (λ p. Ok (p.0 ∷ p.1)) ≡ Ok (y ∷ [])
one_given x y h = rw h refl

items_read : (e : Extensions) (src : List ℕ) {ts : List Lexeme} {uids : List EntityUID} → AreEntities ts uids → ItemsRead src ts uids
items_read e src (m.first_entity {ts = ts} {uid = uid} i) =
    let d = lone_entity_read e src i in
    let y = placed src ts d.tree in
    record { cells = y ∷ []; reads = l.one_expr d.reads; give = one_given (lone_entity (located expr_form y)) uid (d.gives y.loc) }
items_read e src (m.more_entities {us = us} {uids = uids} {uid = uid} p es i) =
    let c = items_read e src es in
    let d = lone_entity_read e src i in
    let y = placed src us d.tree in
    record {
      cells = c.cells ++ y ∷ [];
      reads = l.more_exprs p c.reads d.reads;
      give = ap (λ zs. entities (parts_of zs)) (map_snoc listed_expr c.cells y) ∙ entities_snoc (map listed_expr c.cells) (listed_expr y)
          ∙ more_given (entities (parts_of (map listed_expr c.cells))) (lone_entity (located expr_form y)) uids uid c.give (d.gives y.loc);
    }

list_read : (e : Extensions) (src : List ℕ) {ts : List Lexeme} {uids : List EntityUID} → IsEntityList ts uids → ListRead src ts uids
list_read e src m.no_entities = record { cells = []; reads = l.no_expr; give = refl }
list_read e src (m.listed es) = let c = items_read e src es in record { cells = c.cells; reads = l.exprs c.reads; give = c.give }
list_read e src (m.listed_comma p es) = let c = items_read e src es in record { cells = c.cells; reads = l.exprs_comma p c.reads; give = c.give }

-- ---- one entity or those of a set

pub record ActionsRead (e : Extensions) (x : Var) (src : List ℕ) (ts : List Lexeme) (uids : List EntityUID) : Type 0 where
  pub all : OneOrMultipleRefs
  pub same : uids_of all ≡ uids
  pub read : LoneAs e src ts (referent_at one_or_multiple x) all

set_given : (p : Option Loc) (o : Outcome (List EntityUID)) (uids : List EntityUID) → o ≡ Ok uids → next o (λ all. Ok (refs.Multiple all)) ≡ Ok (refs.Multiple uids)
set_given p o uids h = rw h refl

pub actions_read : (e : Extensions) (x : Var) (src : List ℕ) {ts : List Lexeme} {uids : List EntityUID} → AreActions ts uids → ActionsRead e x src ts uids
actions_read e x src (m.one_action {uid = uid} i) = record { all = refs.Single uid; same = refl; read = entity_as e one_or_multiple x src i }
actions_read e x src (m.action_set {ts = ts} {uids = uids} a b es) =
    let c = list_read e src es in
    let all = one kind.OpenBracket a ++ ts ++ one kind.CloseBracket b in
    let place = (placed src all (P.EList c.cells)).loc in
    record {
      all = refs.Multiple uids;
      same = refl;
      read = alone_as e src all (referent_at one_or_multiple x) (refs.Multiple uids) (P.EList c.cells) (l.set a b c.reads) (list_alone place c.cells)
          (referred_form_at one_or_multiple x place _ _ (primary_list c.cells) ∙ set_given place (entities (parts_of (map listed_expr c.cells))) uids c.give) (set_plain e place c.cells);
    }
actions_read e x src (m.actions_in_parentheses a b es) =
    let d = actions_read e x src es in
    record { all = d.all; same = d.same; read = in_parentheses e src (referent_at one_or_multiple x) d.all a b d.read }

-- What stands right of a scope's operator is held of its tokens: an entity, a slot, or entities of
-- a set.
use Rattle.std.proofs.Common.{◌≡◌, ℕ, List, [], ◌∷◌, ◌++◌, map, Option, Ok, Err, sym, ap, ◌∙◌}
use Rattle.cedar_lexer.specs.Token.{Lexeme}
use Rattle.cedar_lexer.specs.declared.token.TokenKind.{TokenKind}
use Rattle.cedar_lexer.specs.declared.token.TokenKind.TheVariants as kind
use Rattle.cedar_expressions.specs.declared.entity.EntityUID.{EntityUID}
use Rattle.cedar_expressions.specs.declared.atoms.Var.{Var}
use Rattle.cedar_expressions.specs.declared.atoms.Var.TheVariants as vars
use Rattle.cedar_policy_store.specs.declared.constraints.EntityReference.{EntityReference}
use Rattle.cedar_policy_store.specs.declared.constraints.EntityReference.TheVariants as reference
use Rattle.cedar_policy_store.specs.PlaceFree as free
use Rattle.cedar_policy_store.specs.PlaceFree.{Reference}
use Rattle.cedar_syntax.specs.declared.loc.Loc.{Loc}
use Rattle.cedar_syntax.specs.declared.cst.Expr.{Expr}
use Rattle.cedar_syntax.specs.declared.cst.Primary.{Primary}
use Rattle.cedar_syntax.specs.declared.cst.Slot.{Slot}
use Rattle.cedar_syntax.specs.trees.Forms.{located, parts_of, expr_form, primary_form, listed_expr}
use Rattle.cedar_syntax.specs.trees.Located.{Form, at}
use Rattle.cedar_syntax.proofs.FormLevels.{primary_literal, primary_ref, primary_name, primary_slot, primary_expr, primary_list, primary_inits}
use Rattle.cedar_grammar.specs.grammar.Place.{placed}
use Rattle.cedar_grammar.specs.grammar.LooseExpressions as l
use Rattle.cedar_grammar.specs.grammar.LooseExpressions.{ReadsExpr, ReadsExprs, ReadsExprItems, ReadsPrimary, ReadsSlot}
use Rattle.cedar_syntax.specs.tokens.Tokens.{Spot, one}
use Rattle.cedar_syntax.specs.trees.Trees.{Cell}
use Rattle.cedar_policy_conversion.specs.declared.to_ref_or_refs.OneOrMultipleRefs.{OneOrMultipleRefs}
use Rattle.cedar_policy_conversion.specs.declared.to_ref_or_refs.OneOrMultipleRefs.TheVariants as refs
use Rattle.cedar_policy_conversion.specs.declared.to_ref_or_refs.SingleEntity.{SingleEntity}
use Rattle.cedar_conversion.specs.outcome.Conversion.{with_first}
use Rattle.cedar_conversion.specs.parts.Entities.{entity_outcome}
use Rattle.cedar_conversion.specs.outcome.Outcome.{NamedFault, Outcome, both, item_more}
use Rattle.cedar_policy_conversion.specs.References.{RefKind, entities, entity_at, entity_form, entity_or_slot, lone, lone_entity, of_variable, one_or_multiple, referent_outcome, referent_at, referred_form, single_entity}
use Rattle.cedar_conversion.specs.outcome.Places.{place_mark}
use Rattle.cedar_policy_parser.specs.meaning.StrictScope as m
use Rattle.cedar_policy_parser.specs.meaning.StrictScope.{AreActions, AreEntities, IsEntityAlone, IsEntityList, IsReference}
use Rattle.cedar_conversion.specs.strict.StrictWords.{IsEntity}
use Rattle.cedar_conversion.proofs.Inverted.{ok_is, next_ok, both_ok}
use Rattle.cedar_conversion.proofs.Loops.{map_snoc}
use Rattle.cedar_policy_conversion.proofs.ReferredNodes.{entities_snoc}
use Rattle.cedar_policy_parser.proofs.sound.Lones.{InParens, bare, wrapped, lone_expr}
use Rattle.cedar_policy_parser.proofs.sound.Words.{entity_meant}

never : {Y : Type 0} (fs : List NamedFault) (y : Y) (o : Outcome Y) → o ≡ Err fs → o ≡ Ok y → ⊥
never fs y (Ok z) h k = cc
never fs y (Err gs) h k = cc

-- ---- an entity alone

alone_in : {ts us : List Lexeme} {uid : EntityUID} → InParens ts us → IsEntity us uid → IsEntityAlone ts uid
alone_in bare i = m.bare_entity i
alone_in (wrapped a b p) i = m.entity_in_parentheses a b (alone_in p i)

entity_form_at : (p : Option Loc) (t u : Form) → t ≡ u → entity_at (at p t) ≡ entity_form p u
entity_form_at p t u h = ap (entity_form p) h

entity_primary : {src : List ℕ} {us : List Lexeme} {d : Primary} (uid : EntityUID) → ReadsPrimary src us d → entity_at (located primary_form (placed src us d)) ≡ Ok uid → IsEntity us uid
entity_primary {src = src} uid (l.referred {ts = ts} {x = x} r) h = entity_meant (placed src ts x).loc uid r (sym (entity_form_at _ _ _ (primary_ref (placed src ts x))) ∙ h)
entity_primary {src = src} uid (l.literally {ts = ts} {x = x} r) h = absurd (never _ uid _ (entity_form_at _ _ _ (primary_literal (placed src ts x))) h)
entity_primary {src = src} uid (l.named {ts = ts} {x = x} r) h = absurd (never _ uid _ (entity_form_at _ _ _ (primary_name (placed src ts x))) h)
entity_primary {src = src} uid (l.slotted {k = k} {x = x} p r) h = absurd (never _ uid _ (entity_form_at _ _ _ (primary_slot (placed src (one k p) x))) h)
entity_primary {src = src} uid (l.paren {ts = ts} {x = x} a b r) h = absurd (never _ uid _ (entity_form_at _ _ _ (primary_expr (placed src ts x))) h)
entity_primary uid (l.set {xs = xs} a b r) h = absurd (never _ uid _ (entity_form_at _ _ _ (primary_list xs)) h)
entity_primary uid (l.in_braces {xs = xs} a b r) h = absurd (never _ uid _ (entity_form_at _ _ _ (primary_inits xs)) h)

pub entity_alone : {src : List ℕ} {ts : List Lexeme} {x : Expr} (uid : EntityUID) → ReadsExpr src ts x → lone_entity (located expr_form (placed src ts x)) ≡ Ok uid → IsEntityAlone ts uid
entity_alone {src = src} {ts = ts} {x = x} uid r h =
    let a = next_ok (lone (located expr_form (placed src ts x))) entity_at uid h in
    let d = lone_expr a.0 r a.1 in
    alone_in d.parens (entity_primary uid d.reads (sym (ap entity_at d.same) ∙ a.2))

-- ---- entities of a set

more_ok : {X : Type 0} (o : Outcome (List X)) (x : Outcome X) (zs : List X) → item_more o x ≡ Ok zs → (ys : List X) × (y : X) × (o ≡ Ok ys) × (x ≡ Ok y) × (zs ≡ ys ++ y ∷ [])
more_ok o x zs h =
    let a = next_ok (both o x) _ zs h in
    let b = both_ok o x a.0 a.1 in
    (a.0.0, a.0.1, b.0, b.1, sym (ok_is a.2))

entities_as : {ts : List Lexeme} (us vs : List EntityUID) → us ≡ vs → AreEntities ts us → AreEntities ts vs
entities_as us vs h i = rw (← h) i

entity_items : {src : List ℕ} {ts : List Lexeme} {xs : List (Cell Expr)} (uids : List EntityUID) → ReadsExprItems src ts xs → entities (parts_of (map listed_expr xs)) ≡ Ok uids → AreEntities ts uids
entity_items {src = src} uids (l.one_expr {ts = ts} {x = x} r) h =
    let a = next_ok (both (lone_entity (located expr_form (placed src ts x))) (Ok [])) with_first uids h in
    let b = both_ok (lone_entity (located expr_form (placed src ts x))) (Ok []) a.0 a.1 in
    let none : [] ≡ a.0.1 = ok_is b.1 in
    entities_as (a.0.0 ∷ []) uids (ap (λ vs. a.0.0 ∷ vs) none ∙ ok_is a.2) (m.first_entity (entity_alone a.0.0 r b.0))
entity_items {src = src} uids (l.more_exprs {us = us} {xs = xs} {y = y} p r s) h =
    let snoc = entities_snoc (map listed_expr xs) (listed_expr (placed src us y)) in
    let d = more_ok (entities (parts_of (map listed_expr xs))) (lone_entity (located expr_form (placed src us y))) uids (sym (ap (λ zs. entities (parts_of zs)) (map_snoc listed_expr xs (placed src us y)) ∙ snoc) ∙ h) in
    entities_as (d.0 ++ d.1 ∷ []) uids (sym d.4) (m.more_entities p (entity_items d.0 r d.2) (entity_alone d.1 s d.3))

listed_as : {ts : List Lexeme} (us vs : List EntityUID) → us ≡ vs → IsEntityList ts us → IsEntityList ts vs
listed_as us vs h i = rw (← h) i

entity_list : {src : List ℕ} {ts : List Lexeme} {xs : List (Cell Expr)} (uids : List EntityUID) → ReadsExprs src ts xs → entities (parts_of (map listed_expr xs)) ≡ Ok uids → IsEntityList ts uids
entity_list uids l.no_expr h = listed_as [] uids (ok_is h) m.no_entities
entity_list uids (l.exprs r) h = m.listed (entity_items uids r h)
entity_list uids (l.exprs_comma p r) h = m.listed_comma p (entity_items uids r h)

-- ---- an entity or the variable's slot

-- the token that is the variable's slot
pub data SlotOf : Var → TokenKind → Type 0 where
  principal : SlotOf vars.Principal kind.PrincipalSlot
  resource : SlotOf vars.Resource kind.ResourceSlot

reference_in : {k : TokenKind} {ts us : List Lexeme} {r : Reference} → InParens ts us → IsReference k us r → IsReference k ts r
reference_in bare i = i
reference_in (wrapped a b p) i = m.in_parentheses a b (reference_in p i)

reference_as : {k : TokenKind} {ts : List Lexeme} (r s : EntityReference) → r ≡ s → IsReference k ts (free.reference_meaning r) → IsReference k ts (free.reference_meaning s)
reference_as r s h i = rw (← h) i

referred_form_at : {T : Type 0} (k : RefKind T) (x : Var) (p : Option Loc) (t u : Form) → t ≡ u → referent_at k x (at p t) ≡ referred_form k x p u
referred_form_at k x p t u h = ap (referred_form k x p) h

own_slot : {k j : TokenKind} {x : Var} {s : Slot} (p : Spot) (place : Option Loc) (r : EntityReference) → SlotOf x k → ReadsSlot j p.text s → of_variable place x (reference.Slot (place_mark place)) s ≡ Ok r → IsReference k (one j p) (free.reference_meaning r)
own_slot p place r principal l.principal_slot h = reference_as _ r (ok_is h) (m.to_slot p)
own_slot p place r resource l.resource_slot h = reference_as _ r (ok_is h) (m.to_slot p)
own_slot p place r principal l.resource_slot h = cc
own_slot p place r resource l.principal_slot h = cc
own_slot p place r principal l.other_slot h = cc
own_slot p place r resource l.other_slot h = cc

reference_primary : {src : List ℕ} {us : List Lexeme} {d : Primary} {x : Var} {k : TokenKind} (r : EntityReference) → SlotOf x k → ReadsPrimary src us d → referent_at entity_or_slot x (located primary_form (placed src us d)) ≡ Ok r
    → IsReference k us (free.reference_meaning r)
reference_primary {src = src} {x = x} r s (l.referred {ts = ts} {x = y} i) h =
    let a = next_ok (entity_outcome (placed src ts y)) _ r (sym (referred_form_at entity_or_slot x _ _ _ (primary_ref (placed src ts y))) ∙ h) in
    reference_as (reference.EUID a.0) r (ok_is a.2) (m.to_entity (entity_meant (placed src ts y).loc a.0 i a.1))
reference_primary {src = src} {x = x} r s (l.slotted {k = j} {x = y} p i) h =
    own_slot p (placed src (one j p) y).loc r s i (sym (referred_form_at entity_or_slot x _ _ _ (primary_slot (placed src (one j p) y))) ∙ h)
reference_primary {src = src} {x = x} r s (l.literally {ts = ts} {x = y} i) h = absurd (never _ r _ (referred_form_at entity_or_slot x _ _ _ (primary_literal (placed src ts y))) h)
reference_primary {src = src} {x = x} r s (l.named {ts = ts} {x = y} i) h = absurd (never _ r _ (referred_form_at entity_or_slot x _ _ _ (primary_name (placed src ts y))) h)
reference_primary {src = src} {x = x} r s (l.paren {ts = ts} {x = y} a b i) h = absurd (never _ r _ (referred_form_at entity_or_slot x _ _ _ (primary_expr (placed src ts y))) h)
reference_primary {x = x} r s (l.set {xs = xs} a b i) h = absurd (never _ r _ (referred_form_at entity_or_slot x _ _ _ (primary_list xs)) h)
reference_primary {x = x} r s (l.in_braces {xs = xs} a b i) h = absurd (never _ r _ (referred_form_at entity_or_slot x _ _ _ (primary_inits xs)) h)

pub reference_meant : {src : List ℕ} {ts : List Lexeme} {t : Expr} {x : Var} {k : TokenKind} (r : EntityReference) → SlotOf x k → ReadsExpr src ts t → referent_outcome entity_or_slot x (placed src ts t) ≡ Ok r → IsReference k ts (free.reference_meaning r)
reference_meant {src = src} {ts = ts} {t = t} {x = x} r s i h =
    let a = next_ok (lone (located expr_form (placed src ts t))) (referent_at entity_or_slot x) r h in
    let d = lone_expr a.0 i a.1 in
    reference_in d.parens (reference_primary r s d.reads (sym (ap (referent_at entity_or_slot x) d.same) ∙ a.2))

-- ---- one entity

single_primary : {src : List ℕ} {us : List Lexeme} {d : Primary} (x : Var) (r : SingleEntity) → ReadsPrimary src us d → referent_at single_entity x (located primary_form (placed src us d)) ≡ Ok r → IsEntity us r.0
single_primary {src = src} x r (l.referred {ts = ts} {x = y} i) h =
    let a = next_ok (entity_outcome (placed src ts y)) _ r (sym (referred_form_at single_entity x _ _ _ (primary_ref (placed src ts y))) ∙ h) in
    rw (← ok_is a.2) (entity_meant (placed src ts y).loc a.0 i a.1)
single_primary {src = src} x r (l.slotted {k = j} {x = y} p i) h = absurd (never _ r _ (referred_form_at single_entity x _ _ _ (primary_slot (placed src (one j p) y))) h)
single_primary {src = src} x r (l.literally {ts = ts} {x = y} i) h = absurd (never _ r _ (referred_form_at single_entity x _ _ _ (primary_literal (placed src ts y))) h)
single_primary {src = src} x r (l.named {ts = ts} {x = y} i) h = absurd (never _ r _ (referred_form_at single_entity x _ _ _ (primary_name (placed src ts y))) h)
single_primary {src = src} x r (l.paren {ts = ts} {x = y} a b i) h = absurd (never _ r _ (referred_form_at single_entity x _ _ _ (primary_expr (placed src ts y))) h)
single_primary x r (l.set {xs = xs} a b i) h = absurd (never _ r _ (referred_form_at single_entity x _ _ _ (primary_list xs)) h)
single_primary x r (l.in_braces {xs = xs} a b i) h = absurd (never _ r _ (referred_form_at single_entity x _ _ _ (primary_inits xs)) h)

pub single_meant : {src : List ℕ} {ts : List Lexeme} {t : Expr} (x : Var) (r : SingleEntity) → ReadsExpr src ts t → referent_outcome single_entity x (placed src ts t) ≡ Ok r → IsEntityAlone ts r.0
single_meant {src = src} {ts = ts} {t = t} x r i h =
    let a = next_ok (lone (located expr_form (placed src ts t))) (referent_at single_entity x) r h in
    let d = lone_expr a.0 i a.1 in
    alone_in d.parens (single_primary x r d.reads (sym (ap (referent_at single_entity x) d.same) ∙ a.2))

-- ---- one entity or those of a set

-- the entities that are referred to
abbrev pub uids_of : OneOrMultipleRefs → List EntityUID
uids_of (refs.Single uid) = uid ∷ []
uids_of (refs.Multiple uids) = uids

actions_in : {ts us : List Lexeme} {uids : List EntityUID} → InParens ts us → AreActions us uids → AreActions ts uids
actions_in bare i = i
actions_in (wrapped a b p) i = m.actions_in_parentheses a b (actions_in p i)

actions_as : {ts : List Lexeme} (r s : OneOrMultipleRefs) → r ≡ s → AreActions ts (uids_of r) → AreActions ts (uids_of s)
actions_as r s h i = rw (← h) i

several_primary : {src : List ℕ} {us : List Lexeme} {d : Primary} (x : Var) (r : OneOrMultipleRefs) → ReadsPrimary src us d → referent_at one_or_multiple x (located primary_form (placed src us d)) ≡ Ok r → AreActions us (uids_of r)
several_primary {src = src} x r (l.referred {ts = ts} {x = y} i) h =
    let a = next_ok (entity_outcome (placed src ts y)) _ r (sym (referred_form_at one_or_multiple x _ _ _ (primary_ref (placed src ts y))) ∙ h) in
    actions_as (refs.Single a.0) r (ok_is a.2) (m.one_action (entity_meant (placed src ts y).loc a.0 i a.1))
several_primary x r (l.set {xs = xs} a b i) h =
    let d = next_ok (entities (parts_of (map listed_expr xs))) _ r (sym (referred_form_at one_or_multiple x _ _ _ (primary_list xs)) ∙ h) in
    actions_as (refs.Multiple d.0) r (ok_is d.2) (m.action_set a b (entity_list d.0 i d.1))
several_primary {src = src} x r (l.slotted {k = j} {x = y} p i) h = absurd (never _ r _ (referred_form_at one_or_multiple x _ _ _ (primary_slot (placed src (one j p) y))) h)
several_primary {src = src} x r (l.literally {ts = ts} {x = y} i) h = absurd (never _ r _ (referred_form_at one_or_multiple x _ _ _ (primary_literal (placed src ts y))) h)
several_primary {src = src} x r (l.named {ts = ts} {x = y} i) h = absurd (never _ r _ (referred_form_at one_or_multiple x _ _ _ (primary_name (placed src ts y))) h)
several_primary {src = src} x r (l.paren {ts = ts} {x = y} a b i) h = absurd (never _ r _ (referred_form_at one_or_multiple x _ _ _ (primary_expr (placed src ts y))) h)
several_primary x r (l.in_braces {xs = xs} a b i) h = absurd (never _ r _ (referred_form_at one_or_multiple x _ _ _ (primary_inits xs)) h)

pub several_meant : {src : List ℕ} {ts : List Lexeme} {t : Expr} (x : Var) (r : OneOrMultipleRefs) → ReadsExpr src ts t → referent_outcome one_or_multiple x (placed src ts t) ≡ Ok r → AreActions ts (uids_of r)
several_meant {src = src} {ts = ts} {t = t} x r i h =
    let a = next_ok (lone (located expr_form (placed src ts t))) (referent_at one_or_multiple x) r h in
    let d = lone_expr a.0 i a.1 in
    actions_in d.parens (several_primary x r d.reads (sym (ap (referent_at one_or_multiple x) d.same) ∙ a.2))

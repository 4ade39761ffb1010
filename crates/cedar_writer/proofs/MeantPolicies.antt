-- The policies that spelled tokens mean are writable, each with some parts.
use Rattle.std.proofs.Common.{◌≡◌, ℕ, true, List, [], ◌∷◌, ◌++◌, refl, sym, ap, subst}
use Rattle.std.specs.Prelude.{not}
use Rattle.std.specs.Str.{IsUtf8}
use Rattle.std.proofs.lemmas.Bool.{and_parts}
use Rattle.cedar_lexer.specs.declared.token.TokenKind.{TokenKind}
use Rattle.cedar_lexer.specs.declared.token.TokenKind.TheVariants as kind
use Rattle.cedar_lexer.specs.Token.{Lexeme}
use Rattle.cedar_expressions.specs.declared.entity.EntityUID.{EntityUID}
use Rattle.cedar_expressions.specs.Path.{is_identifier, is_valid_identifier, is_reserved_word, is_reserved_namespace}
use Rattle.cedar_expressions.specs.Slots.{slots_of}
use Rattle.cedar_expressions.specs.Value as v
use Rattle.cedar_expressions.specs.Value.{Value}
use Rattle.cedar_policy_store.specs.declared.constraints.ActionConstraint.{ActionConstraint}
use Rattle.cedar_policy_store.specs.PlaceFree.{Reference, Constraint, Policy}
use Rattle.cedar_syntax.specs.tokens.Tokens.{one}
use Rattle.cedar_conversion.specs.strict.Extensions.{Extensions}
use Rattle.cedar_policy_conversion.specs.PolicyMeaning.{joint_condition, conjunction_value}
use Rattle.cedar_policy_conversion.specs.StrictScope as sc
use Rattle.cedar_policy_conversion.specs.StrictScope.{IsReference, IsEntityAlone, AreEntities, IsEntityList, AreActions, Asks, AsksAction, IsScope, IsLastComma}
use Rattle.cedar_policy_conversion.specs.StrictPolicy as p
use Rattle.cedar_policy_conversion.specs.StrictPolicy.{IsReservedWord, IsAnyWord, IsAnnotation, AreAnnotations, IsCondition, AreConditions, IsPolicy}
use Rattle.cedar_writer.specs.Writable.{IsWritable}
use Rattle.cedar_writer.specs.WrittenPolicies.{Parts, assembled, conditions_in, conditions_of, AreWritableAnnotations, IsWritableEntity, AreWritableEntities, IsWritableReference, IsWritableConstraint, IsWritableAction, IsWritableCondition, AreWritableConditions, IsWritablePolicy}
use Rattle.cedar_writer.proofs.Meant.{Spelled, fore, aft, left, right, within, identifier, name, text, entity, writable}

-- ---- annotations

key : {ts : List Lexeme} {k : List ℕ} → IsAnyWord ts k → is_identifier k ≡ true
key (p.reserved q p.true_word) = refl
key (p.reserved q p.false_word) = refl
key (p.reserved q p.if_word) = refl
key (p.reserved q p.then_word) = refl
key (p.reserved q p.else_word) = refl
key (p.reserved q p.in_word) = refl
key (p.reserved q p.is_word) = refl
key (p.reserved q p.has_word) = refl
key (p.reserved q p.like_word) = refl
key (p.unreserved {text = t} i) = (and_parts (is_identifier t) (not (is_reserved_word t)) (and_parts (is_valid_identifier t) (not (is_reserved_namespace t)) (identifier i)).0).0
key (p.any_identifier q h) = h

empty_text : IsUtf8 []
empty_text = ([], (refl, refl))

annotation : {ts : List Lexeme} {k t : List ℕ} → IsAnnotation ts k t → Spelled ts → (is_identifier k ≡ true) × IsUtf8 t
annotation (p.key_alone q w) h = (key w, empty_text)
annotation (p.with_text {ts = ts} {us = us} q l m w t) h = (key w, text t (right (one kind.At q ++ ts) us kind.OpenParen l (fore (one kind.At q ++ ts ++ one kind.OpenParen l ++ us) (one kind.CloseParen m) h)))

annotations_join : (xs ys : List (List ℕ × List ℕ)) → AreWritableAnnotations xs → AreWritableAnnotations ys → AreWritableAnnotations (xs ++ ys)
annotations_join [] ys h k = k
annotations_join (x ∷ xs) ys h k = (h.0, h.1, annotations_join xs ys h.2 k)

annotations : {ts : List Lexeme} {all : List (List ℕ × List ℕ)} → AreAnnotations ts all → Spelled ts → AreWritableAnnotations all
annotations p.no_annotation h = tt
annotations (p.more_annotations {ts = ts} {us = us} {all = all} {key = k} {text = t} xs' a) h =
    let r = annotation a (aft ts us h) in annotations_join all ((k, t) ∷ []) (annotations xs' (fore ts us h)) (r.0, r.1, tt)

-- ---- the scope

alone : {ts : List Lexeme} {uid : EntityUID} → IsEntityAlone ts uid → Spelled ts → IsWritableEntity uid
alone (sc.bare_entity e) h = entity e h
alone (sc.entity_in_parentheses {ts = ts} l m e) h = alone e (within kind.OpenParen kind.CloseParen l m ts h)

reference : {slot : TokenKind} {ts : List Lexeme} {r : Reference} → IsReference slot ts r → Spelled ts → IsWritableReference r
reference (sc.to_entity e) h = entity e h
reference (sc.to_slot q) h = tt
reference (sc.in_parentheses {ts = ts} l m r) h = reference r (within kind.OpenParen kind.CloseParen l m ts h)

entities_join : (xs : List EntityUID) (y : EntityUID) → AreWritableEntities xs → IsWritableEntity y → AreWritableEntities (xs ++ y ∷ [])
entities_join [] y h k = (k, tt)
entities_join (x ∷ xs) y h k = (h.0, entities_join xs y h.1 k)

entities : {ts : List Lexeme} {uids : List EntityUID} → AreEntities ts uids → Spelled ts → AreWritableEntities uids
entities (sc.first_entity e) h = (alone e h, tt)
entities (sc.more_entities {ts = ts} {us = us} {uids = uids} {uid = uid} q es e) h = entities_join uids uid (entities es (left ts us kind.Comma q h)) (alone e (right ts us kind.Comma q h))

entity_list : {ts : List Lexeme} {uids : List EntityUID} → IsEntityList ts uids → Spelled ts → AreWritableEntities uids
entity_list sc.no_entities h = tt
entity_list (sc.listed es) h = entities es h
entity_list (sc.listed_comma {ts = ts} q es) h = entities es (fore ts (one kind.Comma q) h)

actions : {ts : List Lexeme} {uids : List EntityUID} → AreActions ts uids → Spelled ts → AreWritableEntities uids
actions (sc.one_action e) h = (entity e h, tt)
actions (sc.action_set {ts = ts} l m es) h = entity_list es (within kind.OpenBracket kind.CloseBracket l m ts h)
actions (sc.actions_in_parentheses {ts = ts} l m xs') h = actions xs' (within kind.OpenParen kind.CloseParen l m ts h)

asks : {slot : TokenKind} {ts : List Lexeme} {c : Constraint} → Asks slot ts c → Spelled ts → IsWritableConstraint c
asks sc.nothing h = tt
asks (sc.to_be {ts = ts} q r) h = reference r (aft (one kind.EqEq q) ts h)
asks (sc.to_be_in {ts = ts} q r) h = reference r (aft (one kind.In q) ts h)
asks (sc.to_be_of_type q n) h = name n
asks (sc.to_be_of_type_in {ts = ts} {us = us} q r n a) h = (name n, reference a (right (one kind.Is q ++ ts) us kind.In r h))

asks_action : {ts : List Lexeme} {a : ActionConstraint} → AsksAction ts a → Spelled ts → IsWritableAction a
asks_action sc.nothing h = tt
asks_action (sc.to_be {ts = ts} q e i) h = (alone e (aft (one kind.EqEq q) ts h), i)
asks_action (sc.to_be_in {ts = ts} q xs' i) h = (actions xs' (aft (one kind.In q) ts h), i)

scope : {ts : List Lexeme} {c r : Constraint} {a : ActionConstraint} → IsScope ts c a r → Spelled ts → IsWritableConstraint c × IsWritableAction a × IsWritableConstraint r
scope (sc.scope {ts = ts} {us = us} {vs = vs} {ws = ws} q l k m n c a r e) h =
    let x = fore (((one kind.Principal q ++ ts) ++ one kind.Comma l ++ (one kind.Action k ++ us)) ++ one kind.Comma m ++ (one kind.Resource n ++ vs)) ws h in
    let y = left ((one kind.Principal q ++ ts) ++ one kind.Comma l ++ (one kind.Action k ++ us)) (one kind.Resource n ++ vs) kind.Comma m x in
    let z = right ((one kind.Principal q ++ ts) ++ one kind.Comma l ++ (one kind.Action k ++ us)) (one kind.Resource n ++ vs) kind.Comma m x in (
      asks c (aft (one kind.Principal q) ts (left (one kind.Principal q ++ ts) (one kind.Action k ++ us) kind.Comma l y)),
      asks_action a (aft (one kind.Action k) us (right (one kind.Principal q ++ ts) (one kind.Action k ++ us) kind.Comma l y)),
      asks r (aft (one kind.Resource n) vs z),
    )

-- ---- conditions

-- what an expression means is no joined condition, and has no place for one
record Held (table : Extensions) (limit : ℕ) (a : Value) : Type 0 where
  writes : IsWritableCondition table limit a
  single : conditions_in a ≡ a ∷ []

held : (table : Extensions) (limit : ℕ) (a : Value) → IsWritable table limit a → slots_of a ≡ [] → Held table limit a
unfolding IsWritable conditions_in slots_of
held table limit (v.and a b) h e = absurd h
held table limit (v.not a) h e = record { writes = (h.1, e); single = refl }
held table limit a h e = record { writes = (h, e); single = refl }

condition : {table : Extensions} {limit : ℕ} {ts : List Lexeme} {a : Value} → IsCondition table limit ts a → Spelled ts → Held table limit a
unfolding conditions_in
condition {table = table} {limit = limit} (p.when {ts = ts} {a = a} q l m x e) h = held table limit a (writable x (right (one kind.When q) ts kind.OpenBrace l (fore (one kind.When q ++ one kind.OpenBrace l ++ ts) (one kind.CloseBrace m) h))) e
condition {table = table} {limit = limit} (p.unless {ts = ts} {a = a} q l m x e) h = record { writes = (writable x (right (one kind.Unless q) ts kind.OpenBrace l (fore (one kind.Unless q ++ one kind.OpenBrace l ++ ts) (one kind.CloseBrace m) h)), e); single = refl }

abbrev AllHeld : Extensions → ℕ → List Value → Type 0
AllHeld table limit [] = Unit {0}
AllHeld table limit (c ∷ cs) = Held table limit c × AllHeld table limit cs

held_join : (table : Extensions) (limit : ℕ) (cs : List Value) (c : Value) → AllHeld table limit cs → Held table limit c → AllHeld table limit (cs ++ c ∷ [])
held_join table limit [] c h k = (k, tt)
held_join table limit (x ∷ xs) c h k = (h.0, held_join table limit xs c h.1 k)

conditions : {table : Extensions} {limit : ℕ} {ts : List Lexeme} {cs : List Value} → AreConditions table limit ts cs → Spelled ts → AllHeld table limit cs
conditions p.no_condition h = tt
conditions {table = table} {limit = limit} (p.more_conditions {ts = ts} {us = us} {cs = cs} {c = c} xs x) h = held_join table limit cs c (conditions xs (fore ts us h)) (condition x (aft ts us h))

all_write : (table : Extensions) (limit : ℕ) (cs : List Value) → AllHeld table limit cs → AreWritableConditions table limit cs
all_write table limit [] h = tt
all_write table limit (c ∷ cs) h = (h.0.writes, all_write table limit cs h.1)

apart_in : (table : Extensions) (limit : ℕ) (c : Value) (cs : List Value) → AllHeld table limit (c ∷ cs) → conditions_in (conjunction_value c cs) ≡ c ∷ cs
unfolding conditions_in
apart_in table limit c [] h = h.0.single
apart_in table limit c (d ∷ ds) h = ap (λ xs. c ∷ xs) (apart_in table limit d ds h.1)

apart : (table : Extensions) (limit : ℕ) (cs : List Value) → AllHeld table limit cs → conditions_of (joint_condition cs) ≡ cs
apart table limit [] h = refl
apart table limit (c ∷ cs) h = apart_in table limit c cs h

-- ---- policies

pub policy : {table : Extensions} {limit : ℕ} {id : List ℕ} {ts : List Lexeme} {x : Policy} → IsPolicy table limit id ts x → Spelled ts → (parts : Parts) × IsWritablePolicy table limit parts × (assembled id parts ≡ x)
policy {table = table} {limit = limit} (p.policy {ts = ts} {us = us} {vs = vs} {annotations = ys'} {k = k} {effect = f} {principal = c} {resource = r} {action = a} {conditions = cs} q l m e xs d g s cc') h =
    let h1 = fore (ts ++ one k q ++ one kind.OpenParen l ++ us ++ one kind.CloseParen m ++ vs) (one kind.Semicolon e) h in
    let h2 = fore (ts ++ one k q ++ one kind.OpenParen l ++ us ++ one kind.CloseParen m) vs h1 in
    let h3 = fore (ts ++ one k q ++ one kind.OpenParen l ++ us) (one kind.CloseParen m) h2 in
    let h4 = fore (ts ++ one k q) (one kind.OpenParen l) (fore (ts ++ one k q ++ one kind.OpenParen l) us h3) in
    let held = conditions cc' (aft (ts ++ one k q ++ one kind.OpenParen l ++ us ++ one kind.CloseParen m) vs h1) in
    let z = scope s (aft (ts ++ one k q ++ one kind.OpenParen l) us h3) in (
      record { annotations = ys'; effect = f; principal = c; action = a; resource = r; condition = joint_condition cs },
      record {
        annotations = annotations xs (fore ts (one k q) h4);
        keys_differ = d;
        principal = z.0;
        action = z.1;
        resource = z.2;
        conditions = subst (AreWritableConditions table limit) (sym (apart table limit cs held)) (all_write table limit cs held);
      },
      refl,
    )

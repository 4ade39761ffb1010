-- What identifiers, names, strings and entities are converted to is what their tokens mean.
use Rattle.std.proofs.Common.{◌≡◌, ℕ, Bool, true, false, ◌&&◌, ◌||◌, not, List, [], ◌∷◌, ◌++◌, Option, Ok, refl, sym, ap, ◌∙◌, codes}
use Rattle.std.specs.List.{list_any}
use Rattle.cedar_lexer.specs.Token.{Lexeme}
use Rattle.cedar_lexer.specs.declared.token.TokenKind.{TokenKind}
use Rattle.cedar_lexer.specs.declared.token.TokenKind.TheVariants as kind
use Rattle.cedar_expressions.specs.declared.entity.EntityUID.{EntityUID}
use Rattle.cedar_expressions.specs.Path.{Path, is_valid_identifier, is_reserved_namespace, has_reserved_namespace}
use Rattle.cedar_syntax.specs.declared.loc.Loc.{Loc}
use Rattle.cedar_syntax.specs.declared.cst.Ident.{Ident}
use Rattle.cedar_syntax.specs.declared.cst.Name.{Name}
use Rattle.cedar_syntax.specs.declared.cst.Ref.{Ref}
use Rattle.cedar_grammar.specs.grammar.Place.{placed}
use Rattle.cedar_grammar.specs.grammar.LooseWords as l
use Rattle.cedar_grammar.specs.grammar.LooseWords.{ReadsAny, ReadsPath, ReadsName, ReadsRef}
use Rattle.cedar_syntax.specs.tokens.Tokens.{Spot, one, any_of, between_quotes}
use Rattle.cedar_syntax.specs.trees.Trees.{Cell, name_of}
use Rattle.cedar_conversion.specs.parts.Entities.{entity_of, reference_outcome}
use Rattle.cedar_conversion.specs.parts.Names.{content_outcome, all_of, valid_ident_of, valid_ident, unreserved, unreserved_ident, path_of, identifiers, path_outcome, name_outcome}
use Rattle.cedar_conversion.specs.outcome.Outcome.{Outcome, both, next}
use Rattle.cedar_conversion.specs.parts.Strings.{text_outcome}
use Rattle.cedar_conversion.specs.strict.StrictWords as m
use Rattle.cedar_conversion.specs.strict.StrictWords.{IsVariable, IsIdentifier, IsName, IsText, IsEntity}
use Rattle.cedar_conversion.proofs.Inverted.{ok_is, next_ok, both_ok, if_ok, unless_ok}
use Rattle.cedar_conversion.proofs.Quoted.{text_meant}

-- ---- identifiers

identifier_as : {ts : List Lexeme} (a b : List ℕ) → a ≡ b → IsIdentifier ts a → IsIdentifier ts b
identifier_as a b h i = rw (← h) i

unreserved_both : (a b : Bool) → a ≡ true → b ≡ false → (a && not b) ≡ true
unreserved_both a b h k = rw (h, k) refl

-- what a token of this kind and text is, as an identifier
any_meant : (k : TokenKind) (p : Spot) (place : Option Loc) (id : List ℕ) → next (content_outcome place (any_of k p.text)) (valid_ident_of place) ≡ Ok id → is_reserved_namespace id ≡ false → IsIdentifier (one k p) id
any_meant kind.Principal p place id h u = identifier_as (codes "principal") id (ok_is h) (m.variable_word p m.principal)
any_meant kind.Action p place id h u = identifier_as (codes "action") id (ok_is h) (m.variable_word p m.action)
any_meant kind.Resource p place id h u = identifier_as (codes "resource") id (ok_is h) (m.variable_word p m.resource)
any_meant kind.Context p place id h u = identifier_as (codes "context") id (ok_is h) (m.variable_word p m.context)
any_meant kind.Permit p place id h u = identifier_as (codes "permit") id (ok_is h) (m.permit p)
any_meant kind.Forbid p place id h u = identifier_as (codes "forbid") id (ok_is h) (m.forbid p)
any_meant kind.When p place id h u = identifier_as (codes "when") id (ok_is h) (m.when p)
any_meant kind.Unless p place id h u = identifier_as (codes "unless") id (ok_is h) (m.unless p)
any_meant kind.Identifier p place id h u =
    let d = if_ok (is_valid_identifier p.text) (Ok p.text) _ id h in
    let same : p.text ≡ id = ok_is d.1 in
    let free : is_reserved_namespace p.text ≡ false = rw same u in
    identifier_as p.text id same (m.identifier p (unreserved_both (is_valid_identifier p.text) (is_reserved_namespace p.text) d.0 free))
any_meant _ p place id h u = cc

pub identifier_meant : {ts : List Lexeme} {i : Ident} (place : Option Loc) (id : List ℕ) → ReadsAny ts i → valid_ident_of place i ≡ Ok id → is_reserved_namespace id ≡ false → IsIdentifier ts id
identifier_meant place id (l.any {k = k} {i = i} p h) g u = any_meant k p place id (ap (λ o. next (content_outcome place o) (valid_ident_of place)) h ∙ g) u

-- an identifier that is no `__cedar`
pub unreserved_meant : (src : List ℕ) {ts : List Lexeme} {i : Ident} (id : List ℕ) → ReadsAny ts i → unreserved_ident (placed src ts i) ≡ Ok id → IsIdentifier ts id
unreserved_meant src {ts = ts} {i = i} id r h =
    let a = next_ok (valid_ident (placed src ts i)) (unreserved (placed src ts i).loc) id h in
    let b = unless_ok (is_reserved_namespace a.0) (Ok a.0) _ id a.2 in
    identifier_as a.0 id (ok_is b.1) (identifier_meant (placed src ts i).loc a.0 r a.1 b.0)

-- ---- lists

all_more : {X Y : Type 0} (f : X → Outcome Y) (w : X) (xs : List X) (y : Y) (ys : List Y) → f w ≡ Ok y → all_of f xs ≡ Ok ys → all_of f (w ∷ xs) ≡ Ok (y ∷ ys)
all_more f w xs y ys h k = rw (h, k) refl

pub all_snoc : {X Y : Type 0} (f : X → Outcome Y) (xs : List X) (x : X) (zs : List Y) → all_of f (xs ++ x ∷ []) ≡ Ok zs → (ys : List Y) × (y : Y) × (all_of f xs ≡ Ok ys) × (f x ≡ Ok y) × (zs ≡ ys ++ y ∷ [])
all_snoc f [] x zs h =
    let a = next_ok (both (f x) (Ok [])) _ zs h in
    let b = both_ok (f x) (Ok []) a.0 a.1 in
    let none : [] ≡ a.0.1 = ok_is b.1 in
    ([], a.0.0, refl, b.0, sym (ok_is a.2) ∙ ap (λ ys. a.0.0 ∷ ys) (sym none))
all_snoc f (w ∷ xs) x zs h =
    let a = next_ok (both (f w) (all_of f (xs ++ x ∷ []))) _ zs h in
    let b = both_ok (f w) (all_of f (xs ++ x ∷ [])) a.0 a.1 in
    let c = all_snoc f xs x a.0.1 b.1 in
    (a.0.0 ∷ c.0, c.1, all_more f w xs a.0.0 c.0 b.0 c.2, c.3, sym (ok_is a.2) ∙ ap (λ ys. a.0.0 ∷ ys) c.4)

or_false : (a b : Bool) → (a || b) ≡ false → (a ≡ false) × (b ≡ false)
or_false true b h = cc
or_false false b h = (refl, h)

pub any_snoc : {X : Type 0} (f : X → Bool) (xs : List X) (x : X) → list_any f (xs ++ x ∷ []) ≡ false → (list_any f xs ≡ false) × (f x ≡ false)
any_snoc f [] x h = (refl, (or_false (f x) false h).0)
any_snoc f (y ∷ xs) x h =
    let a = or_false (f y) (list_any f (xs ++ x ∷ [])) h in
    let b = any_snoc f xs x a.1 in
    let first : list_any f (y ∷ xs) ≡ false = rw (a.0, b.0) refl in
    (first, b.1)

-- ---- names

name_as : {ts : List Lexeme} (xs ys : List (List ℕ)) (a b : List ℕ) → xs ≡ ys → a ≡ b → IsName ts xs a → IsName ts ys b
name_as xs ys a b h k i = rw (← h, ← k) i

pub path_meant : {src : List ℕ} {ts : List Lexeme} {xs : List (Cell Ident)} {x : Cell Ident} (ids : List (List ℕ)) (id : List ℕ) → ReadsPath src ts xs x → all_of valid_ident xs ≡ Ok ids → valid_ident x ≡ Ok id
    → list_any is_reserved_namespace ids ≡ false → is_reserved_namespace id ≡ false → IsName ts ids id
path_meant {src = src} ids id (l.one_word {ts = ts} {i = i} r) h k free last = name_as [] ids id id (ok_is h) refl (m.one_identifier (identifier_meant (placed src ts i).loc id r k last))
path_meant {src = src} ids id (l.more_words {us = us} {xs = xs} {x = x} {i = i} p r s) h k free last =
    let a = all_snoc valid_ident xs x ids h in
    let others : list_any is_reserved_namespace (a.0 ++ a.1 ∷ []) ≡ false = rw (← a.4) free in
    let b = any_snoc is_reserved_namespace a.0 a.1 others in
    name_as (a.0 ++ a.1 ∷ []) ids id id (sym a.4) refl (m.more_identifiers p (path_meant a.0 a.1 r a.2 a.3 b.0 b.1) (identifier_meant (placed src us i).loc id s k last))

-- the identifiers of a name that is converted, none of which is `__cedar`
pub record IsConverted (xs : List (Cell Ident)) (x : Cell Ident) (name : Path) : Type 0 where
  pub others : all_of valid_ident xs ≡ Ok name.path
  pub last : valid_ident x ≡ Ok name.id
  pub free : list_any is_reserved_namespace name.path ≡ false
  pub free_last : is_reserved_namespace name.id ≡ false

converted_at : (xs : List (Cell Ident)) (x : Cell Ident) (p : List ℕ × List (List ℕ)) (name : Path) → path_of p ≡ name → valid_ident x ≡ Ok p.0 → all_of valid_ident xs ≡ Ok p.1 → has_reserved_namespace (path_of p) ≡ false → IsConverted xs x name
converted_at xs x p name h last others free =
    let a = or_false (list_any is_reserved_namespace p.1) (is_reserved_namespace p.0) free in
    rw (← h) (record { others = others; last = last; free = a.0; free_last = a.1 })

pub name_converted : (place : Option Loc) (xs : List (Cell Ident)) (x : Cell Ident) (name : Path) → path_outcome place (name_of xs x) ≡ Ok name → IsConverted xs x name
name_converted place xs x name h =
    let a = next_ok (identifiers (name_of xs x)) _ name h in
    let b = both_ok (valid_ident x) (all_of valid_ident xs) a.0 a.1 in
    let c = unless_ok (has_reserved_namespace (path_of a.0)) (Ok (path_of a.0)) _ name a.2 in
    converted_at xs x a.0 name (ok_is c.1) b.0 b.1 c.0

pub path_name_meant : {src : List ℕ} {ts : List Lexeme} {xs : List (Cell Ident)} {x : Cell Ident} (place : Option Loc) (name : Path) → ReadsPath src ts xs x → path_outcome place (name_of xs x) ≡ Ok name → IsName ts name.path name.id
path_name_meant {xs = xs} {x = x} place name r h =
    let c = name_converted place xs x name h in
    path_meant name.path name.id r c.others c.last c.free c.free_last

name_path : {src : List ℕ} {ts : List Lexeme} {x : Name} → ReadsName src ts x → ReadsPath src ts x.path x.name
name_path (l.common r fine) = l.one_word r
name_path (l.qualified p r s) = l.more_words p r s

pub name_meant : {src : List ℕ} {ts : List Lexeme} {x : Name} (name : Path) → ReadsName src ts x → name_outcome (placed src ts x) ≡ Ok name → IsName ts name.path name.id
name_meant {src = src} {ts = ts} {x = x} name r h = path_name_meant (placed src ts x).loc name (name_path r) h

-- ---- strings and entities

pub string_is_text : (place : Option Loc) (p : Spot) (text : List ℕ) → text_outcome place (between_quotes p.text) ≡ Ok text → IsText (one kind.StringLit p) text
string_is_text place p text h = m.string p (text_meant place (between_quotes p.text) text h)

entity_as : {ts : List Lexeme} (a b : EntityUID) → a ≡ b → IsEntity ts a → IsEntity ts b
entity_as a b h i = rw (← h) i

pub entity_meant : {src : List ℕ} {ts : List Lexeme} {x : Ref} (place : Option Loc) (uid : EntityUID) → ReadsRef src ts x → reference_outcome place x ≡ Ok uid → IsEntity ts uid
entity_meant {src = src} place uid (l.uid {ts = ts} {xs = xs} {x = x} p q r) h =
    let a = next_ok (both (path_outcome (placed src ts (name_of xs x)).loc (name_of xs x)) (text_outcome place (between_quotes q.text))) _ uid h in
    let b = both_ok (path_outcome (placed src ts (name_of xs x)).loc (name_of xs x)) (text_outcome place (between_quotes q.text)) a.0 a.1 in
    entity_as (entity_of a.0) uid (ok_is a.2) (m.entity p (path_name_meant (placed src ts (name_of xs x)).loc a.0.0 r b.0) (string_is_text place q a.0.1 b.1))
entity_meant place uid (l.with_inits p l m r s) h = cc

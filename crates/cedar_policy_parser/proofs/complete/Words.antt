-- Identifiers, names, strings and entities have a tree that gives what they are.
use Rattle.std.proofs.Common.{◌≡◌, ℕ, Bool, true, false, ◌&&◌, ◌||◌, not, IsTrue, List, [], ◌∷◌, ◌++◌, Option, Some, None, Ok, refl, ap, ◌∙◌}
use Rattle.std.specs.List.{list_any}
use Rattle.cedar_lexer.specs.Token.{Lexeme}
use Rattle.cedar_lexer.specs.declared.token.TokenKind.TheVariants as kind
use Rattle.cedar_expressions.specs.declared.entity.EntityUID.{EntityUID}
use Rattle.cedar_expressions.specs.declared.atoms.Var.{Var}
use Rattle.cedar_expressions.specs.declared.atoms.Var.TheVariants as vars
use Rattle.cedar_expressions.specs.Path.{is_valid_identifier, is_reserved_namespace}
use Rattle.cedar_expressions.specs.Written.{var_text}
use Rattle.cedar_syntax.specs.declared.loc.Loc.{Loc}
use Rattle.cedar_syntax.specs.declared.cst.Ident.{Ident}
use Rattle.cedar_syntax.specs.declared.cst.Ident.TheVariants as ident
use Rattle.cedar_syntax.specs.declared.cst.Literal.{Literal}
use Rattle.cedar_syntax.specs.declared.cst.Literal.TheVariants as literal
use Rattle.cedar_syntax.specs.declared.cst.Name.{Name}
use Rattle.cedar_syntax.specs.declared.cst.Ref.{Ref}
use Rattle.cedar_syntax.specs.declared.cst.Ref.TheVariants as ref
use Rattle.cedar_syntax.specs.declared.cst.Str.TheVariants as str
use Rattle.cedar_syntax.specs.strings.Piece.{IsUnescaped}
use Rattle.cedar_grammar.specs.grammar.Place.{placed}
use Rattle.cedar_grammar.specs.grammar.LooseWords as l
use Rattle.cedar_grammar.specs.grammar.LooseWords.{ReadsAny, ReadsLiteral, ReadsName, ReadsPath, ReadsRef, is_common}
use Rattle.cedar_syntax.specs.tokens.Tokens.{Spot, one, between_quotes}
use Rattle.cedar_syntax.specs.trees.Trees.{Cell, name_of as tree_name}
use Rattle.cedar_conversion.specs.parts.Entities.{entity_of, reference_outcome}
use Rattle.cedar_conversion.specs.outcome.Held.{Held, variable, bare_name, bare_string, as_entity_type, as_attribute, type_of_name}
use Rattle.cedar_conversion.specs.parts.HasSide.{attributes_of, behind_first}
use Rattle.cedar_conversion.specs.parts.Leaves.{name_leaf, variable_or_name}
use Rattle.cedar_conversion.specs.parts.Literals.{literal_outcome}
use Rattle.cedar_conversion.specs.parts.Names.{all_of, valid_ident, valid_ident_of, unreserved_ident, unreserved, path_outcome, variable_of}
use Rattle.cedar_conversion.specs.outcome.Outcome.{Outcome, both, next}
use Rattle.cedar_conversion.specs.strict.StrictWords as m
use Rattle.cedar_conversion.specs.strict.StrictWords.{IsVariable, IsVariableWord, IsIdentifier, IsName, IsText, IsEntity, path_value}
use Rattle.cedar_syntax.specs.trees.Located.{Parts}
use Rattle.cedar_conversion.proofs.Inverted.{next_ok, both_ok, ok_is}
use Rattle.cedar_conversion.proofs.Quoted.{text_expected}

-- ---- identifiers

-- what an identifier that is a variable says of its tokens and its text
abbrev pub IsWord : List Lexeme → List ℕ → Option Var → Type 0
IsWord ts id None = Unit {0}
IsWord ts id (Some x) = (id ≡ var_text x) × IsVariableWord ts

pub record WordRead (ts : List Lexeme) (id : List ℕ) : Type 0 where
  pub word : Ident
  pub reads : ReadsAny ts word
  pub common : IsTrue (is_common word)
  pub valid : (place : Option Loc) → valid_ident_of place word ≡ Ok id
  pub free : is_reserved_namespace id ≡ false
  pub variable : IsWord ts id (variable_of word)

and_both : (a b : Bool) → (a && not b) ≡ true → (a ≡ true) × (b ≡ false)
and_both true true h = cc
and_both true false h = (refl, refl)
and_both false b h = cc

identifier_read : (p : Spot) → is_valid_identifier p.text ≡ true → is_reserved_namespace p.text ≡ false → WordRead (one kind.Identifier p) p.text
identifier_read p h k = record { word = ident.Ident p.text; reads = l.any p refl; common = refl; valid = λ q. rw h refl; free = k; variable = tt }

pub word_read : {ts : List Lexeme} {id : List ℕ} → IsIdentifier ts id → WordRead ts id
word_read (m.variable_word p m.principal) = record { word = ident.Principal; reads = l.any p refl; common = refl; valid = λ q. refl; free = refl; variable = (refl, (vars.Principal, m.principal)) }
word_read (m.variable_word p m.action) = record { word = ident.Action; reads = l.any p refl; common = refl; valid = λ q. refl; free = refl; variable = (refl, (vars.Action, m.action)) }
word_read (m.variable_word p m.resource) = record { word = ident.Resource; reads = l.any p refl; common = refl; valid = λ q. refl; free = refl; variable = (refl, (vars.Resource, m.resource)) }
word_read (m.variable_word p m.context) = record { word = ident.Context; reads = l.any p refl; common = refl; valid = λ q. refl; free = refl; variable = (refl, (vars.Context, m.context)) }
word_read (m.permit p) = record { word = ident.Permit; reads = l.any p refl; common = refl; valid = λ q. refl; free = refl; variable = tt }
word_read (m.forbid p) = record { word = ident.Forbid; reads = l.any p refl; common = refl; valid = λ q. refl; free = refl; variable = tt }
word_read (m.when p) = record { word = ident.When; reads = l.any p refl; common = refl; valid = λ q. refl; free = refl; variable = tt }
word_read (m.unless p) = record { word = ident.Unless; reads = l.any p refl; common = refl; valid = λ q. refl; free = refl; variable = tt }
word_read (m.identifier p h) = let d = and_both (is_valid_identifier p.text) (is_reserved_namespace p.text) h in identifier_read p d.0 d.1

unreserved_given : (place : Option Loc) (o : Outcome (List ℕ)) (id : List ℕ) → o ≡ Ok id → is_reserved_namespace id ≡ false → next o (unreserved place) ≡ Ok id
unreserved_given place o id h k = rw (h, k) refl

-- a field's or a method's identifier
pub word_given : (src : List ℕ) {ts : List Lexeme} {id : List ℕ} (w : WordRead ts id) → unreserved_ident (placed src ts w.word) ≡ Ok id
word_given src {ts = ts} {id = id} w = unreserved_given (placed src ts w.word).loc (valid_ident (placed src ts w.word)) id (w.valid (placed src ts w.word).loc) w.free

-- ---- names

pub record PathRead (src : List ℕ) (ts : List Lexeme) (ids : List (List ℕ)) (id : List ℕ) : Type 0 where
  pub others : List (Cell Ident)
  pub last : Cell Ident
  pub reads : ReadsPath src ts others last
  pub given : all_of valid_ident others ≡ Ok ids
  pub given_last : valid_ident last ≡ Ok id
  pub free : list_any is_reserved_namespace ids ≡ false
  pub free_last : is_reserved_namespace id ≡ false

all_more : {X Y : Type 0} (f : X → Outcome Y) (w : X) (xs : List X) (y : Y) (ys : List Y) → f w ≡ Ok y → all_of f xs ≡ Ok ys → all_of f (w ∷ xs) ≡ Ok (y ∷ ys)
all_more f w xs y ys h k = rw (h, k) refl

all_last : {X Y : Type 0} (f : X → Outcome Y) (xs : List X) (x : X) (ys : List Y) (y : Y) → all_of f xs ≡ Ok ys → f x ≡ Ok y → all_of f (xs ++ x ∷ []) ≡ Ok (ys ++ y ∷ [])
all_last f [] x ys y h k = all_more f x [] y [] k refl ∙ ap (λ zs. Ok (zs ++ y ∷ [])) (ok_is h)
all_last f (w ∷ xs) x ys y h k =
    let a = next_ok (both (f w) (all_of f xs)) _ ys h in
    let b = both_ok (f w) (all_of f xs) a.0 a.1 in
    all_more f w (xs ++ x ∷ []) a.0.0 (a.0.1 ++ y ∷ []) b.0 (all_last f xs x a.0.1 y b.1 k) ∙ ap (λ zs. Ok (zs ++ y ∷ [])) (ok_is a.2)

none_more : (f : List ℕ → Bool) (x : List ℕ) (xs : List (List ℕ)) → f x ≡ false → list_any f xs ≡ false → list_any f (x ∷ xs) ≡ false
none_more f x xs h k = rw (h, k) refl

or_none : (a b : Bool) → (a || b) ≡ false → (a ≡ false) × (b ≡ false)
or_none true b h = cc
or_none false b h = (refl, h)

none_last : (f : List ℕ → Bool) (xs : List (List ℕ)) (x : List ℕ) → list_any f xs ≡ false → f x ≡ false → list_any f (xs ++ x ∷ []) ≡ false
none_last f [] x h k = none_more f x [] k refl
none_last f (y ∷ xs) x h k = let d = or_none (f y) (list_any f xs) h in none_more f y (xs ++ x ∷ []) d.0 (none_last f xs x d.1 k)

pub path_read : (src : List ℕ) {ts : List Lexeme} {ids : List (List ℕ)} {id : List ℕ} → IsName ts ids id → PathRead src ts ids id
path_read src (m.one_identifier {ts = ts} i) =
    let w = word_read i in
    record { others = []; last = placed src ts w.word; reads = l.one_word w.reads; given = refl; given_last = w.valid (placed src ts w.word).loc; free = refl; free_last = w.free }
path_read src (m.more_identifiers {us = us} {ids = ids} {id = id} p n i) =
    let h = path_read src n in
    let w = word_read i in
    record {
      others = h.others ++ h.last ∷ [];
      last = placed src us w.word;
      reads = l.more_words p h.reads w.reads;
      given = all_last valid_ident h.others h.last ids id h.given h.given_last;
      given_last = w.valid (placed src us w.word).loc;
      free = none_last is_reserved_namespace ids id h.free h.free_last;
      free_last = w.free;
    }

-- what a name's identifiers give together
pub path_given : (place : Option Loc) (xs : List (Cell Ident)) (x : Cell Ident) (ids : List (List ℕ)) (id : List ℕ) → all_of valid_ident xs ≡ Ok ids → valid_ident x ≡ Ok id → list_any is_reserved_namespace ids ≡ false → is_reserved_namespace id ≡ false
    → path_outcome place (tree_name xs x) ≡ Ok (path_value ids id)
path_given place xs x ids id h k free last = rw (h, k, free, last) refl

-- a name is a variable, or not
pub data IsHeldName (ts : List Lexeme) (place : Option Loc) : List (List ℕ) → List ℕ → Held → Type 0 where
  as_name : {ids : List (List ℕ)} {id : List ℕ} → IsHeldName ts place ids id (bare_name place (path_value ids id))
  as_variable : (x : Var) → IsVariableWord ts → IsHeldName ts place [] (var_text x) (variable place x)

pub record NameRead (src : List ℕ) (ts : List Lexeme) (ids : List (List ℕ)) (id : List ℕ) : Type 0 where
  pub tree : Name
  pub reads : ReadsName src ts tree
  pub gives : (place : Option Loc) → (h : Held) × (name_leaf place (placed src ts tree) ≡ Ok h) × IsHeldName ts place ids id h

variable_held : (ts : List Lexeme) (place : Option Loc) (id : List ℕ) (x : Var) → id ≡ var_text x → IsVariableWord ts → IsHeldName ts place [] id (variable place x)
variable_held ts place id x h w = rw h (as_variable x w)

bare_given : (place : Option Loc) (ids : List (List ℕ)) (id : List ℕ) (src : List ℕ) (ts : List Lexeme) (x : Name) → path_outcome (placed src ts x).loc x ≡ Ok (path_value ids id) → variable_or_name place None (placed src ts x) ≡ Ok (bare_name place (path_value ids id))
bare_given place ids id src ts x h = rw h refl

word_named : (src : List ℕ) (ts : List Lexeme) (id : List ℕ) (place : Option Loc) (word : Ident) (o : Option Var) → variable_of word ≡ o → IsWord ts id o → path_outcome (placed src ts (tree_name [] (placed src ts word))).loc (tree_name [] (placed src ts word)) ≡ Ok (path_value [] id)
    → (h : Held) × (name_leaf place (placed src ts (tree_name [] (placed src ts word))) ≡ Ok h) × IsHeldName ts place [] id h
word_named src ts id place word None e w h =
    (bare_name place (path_value [] id), ap (λ o. variable_or_name place o (placed src ts (tree_name [] (placed src ts word)))) e ∙ bare_given place [] id src ts (tree_name [] (placed src ts word)) h, as_name)
word_named src ts id place word (Some x) e w h =
    (variable place x, ap (λ o. variable_or_name place o (placed src ts (tree_name [] (placed src ts word)))) e, variable_held ts place id x w.0 w.1)

path_named : (src : List ℕ) (ts : List Lexeme) (ids : List (List ℕ)) (id : List ℕ) (place : Option Loc) (xs : List (Cell Ident)) (x y : Cell Ident) → path_outcome (placed src ts (tree_name (xs ++ x ∷ []) y)).loc (tree_name (xs ++ x ∷ []) y) ≡ Ok (path_value ids id)
    → name_leaf place (placed src ts (tree_name (xs ++ x ∷ []) y)) ≡ Ok (bare_name place (path_value ids id))
path_named src ts ids id place [] x y h = bare_given place ids id src ts (tree_name (x ∷ []) y) h
path_named src ts ids id place (z ∷ xs) x y h = bare_given place ids id src ts (tree_name (z ∷ (xs ++ x ∷ [])) y) h

pub word_name : (src : List ℕ) {ts : List Lexeme} {id : List ℕ} → IsIdentifier ts id → NameRead src ts [] id
word_name src {ts = ts} {id = id} i =
    let w = word_read i in
    record {
      tree = tree_name [] (placed src ts w.word);
      reads = l.common w.reads w.common;
      gives = λ q. word_named src ts id q w.word (variable_of w.word) refl w.variable (path_given (placed src ts (tree_name [] (placed src ts w.word))).loc [] (placed src ts w.word) [] id refl (w.valid (placed src ts w.word).loc) refl w.free);
    }

pub name_read : (src : List ℕ) {ts : List Lexeme} {ids : List (List ℕ)} {id : List ℕ} → IsName ts ids id → NameRead src ts ids id
name_read src (m.one_identifier i) = word_name src i
name_read src (m.more_identifiers {ts = ts} {us = us} {ids = ids} {id = id} {last = last} p n i) =
    let h = path_read src n in
    let w = word_read i in
    let all = ts ++ one kind.ColonColon p ++ us in
    let name = tree_name (h.others ++ h.last ∷ []) (placed src us w.word) in
    record {
      tree = name;
      reads = l.qualified p h.reads w.reads;
      gives = λ q. (
        bare_name q (path_value (ids ++ id ∷ []) last),
        path_named src all (ids ++ id ∷ []) last q h.others h.last (placed src us w.word)
            (path_given (placed src all name).loc (h.others ++ h.last ∷ []) (placed src us w.word) (ids ++ id ∷ []) last (all_last valid_ident h.others h.last ids id h.given h.given_last) (w.valid (placed src us w.word).loc) (none_last is_reserved_namespace ids id h.free h.free_last) w.free),
        as_name,
      );
    }

-- ---- what a name may be

pub name_only : (ts : List Lexeme) (place : Option Loc) (ids : List (List ℕ)) (id : List ℕ) (h : Held) → IsHeldName ts place ids id h → (IsVariableWord ts → ⊥) → h ≡ bare_name place (path_value ids id)
name_only ts place _ _ _ as_name other = refl
name_only ts place _ _ _ (as_variable x w) other = absurd (other w)

pub name_type : (ts : List Lexeme) (place : Option Loc) (ids : List (List ℕ)) (id : List ℕ) (h : Held) → IsHeldName ts place ids id h → as_entity_type h ≡ Ok (type_of_name (path_value ids id))
name_type ts place _ _ _ as_name = refl
name_type ts place _ _ _ (as_variable x w) = refl

is_key : (ts : List Lexeme) (place : Option Loc) (ids : List (List ℕ)) (id : List ℕ) (h : Held) → ids ≡ [] → IsHeldName ts place ids id h → as_attribute h ≡ Ok id
is_key ts place _ _ _ e (as_name {ids = []}) = refl
is_key ts place _ _ _ e (as_name {ids = x ∷ ids}) = cc
is_key ts place _ _ _ e (as_variable x w) = refl

pub name_key : (ts : List Lexeme) (place : Option Loc) (id : List ℕ) (h : Held) → IsHeldName ts place [] id h → as_attribute h ≡ Ok id
name_key ts place id h i = is_key ts place [] id h refl i

begins : (ts : List Lexeme) (place whole : Option Loc) (accesses : Parts) (ids : List (List ℕ)) (id : List ℕ) (h : Held) → ids ≡ [] → IsHeldName ts place ids id h → attributes_of whole accesses h ≡ behind_first accesses id
begins ts place whole accesses _ _ _ e (as_name {ids = []}) = refl
begins ts place whole accesses _ _ _ e (as_name {ids = x ∷ ids}) = cc
begins ts place whole accesses _ _ _ e (as_variable x w) = refl

pub name_begins : (ts : List Lexeme) (place whole : Option Loc) (accesses : Parts) (id : List ℕ) (h : Held) → IsHeldName ts place [] id h → attributes_of whole accesses h ≡ behind_first accesses id
name_begins ts place whole accesses id h i = begins ts place whole accesses [] id h refl i

-- ---- strings and entities

pub record TextRead (src : List ℕ) (ts : List Lexeme) (text : List ℕ) : Type 0 where
  pub tree : Literal
  pub reads : ReadsLiteral src ts tree
  pub raw : List ℕ
  pub stands : IsUnescaped raw text
  pub gives : (place : Option Loc) → literal_outcome place (Some tree) ≡ Ok (bare_string place raw)

-- a string, whatever it stands for
abbrev pub string_tree : List ℕ → Spot → Literal
string_tree src p = literal.Str (placed src (one kind.StringLit p) (str.String (between_quotes p.text)))

pub text_read : (src : List ℕ) {ts : List Lexeme} {text : List ℕ} → IsText ts text → TextRead src ts text
text_read src (m.string p u) = record { tree = string_tree src p; reads = l.string p; raw = between_quotes p.text; stands = u; gives = λ q. refl }

pub record EntityRead (src : List ℕ) (ts : List Lexeme) (uid : EntityUID) : Type 0 where
  pub tree : Ref
  pub reads : ReadsRef src ts tree
  pub gives : (place : Option Loc) → reference_outcome place tree ≡ Ok uid

uid_given : (place : Option Loc) (xs : List (Cell Ident)) (x : Cell Ident) (ids : List (List ℕ)) (id eid raw src : List ℕ) (ts us : List Lexeme) → path_outcome (placed src ts (tree_name xs x)).loc (tree_name xs x) ≡ Ok (path_value ids id) → IsUnescaped raw eid
    → reference_outcome place (ref.Uid (placed src ts (tree_name xs x)) (placed src us (str.String raw))) ≡ Ok (entity_of (path_value ids id, eid))
uid_given place xs x ids id eid raw src ts us h u = rw (h, text_expected place raw eid u) refl

uid_read : (src : List ℕ) {ts us : List Lexeme} {ids : List (List ℕ)} {id eid : List ℕ} (p : Spot) → PathRead src ts ids id → IsText us eid → EntityRead src (ts ++ one kind.ColonColon p ++ us) (entity_of (path_value ids id, eid))
uid_read src {ts = ts} {ids = ids} {id = id} {eid = eid} p h (m.string q u) = record {
  tree = ref.Uid (placed src ts (tree_name h.others h.last)) (placed src (one kind.StringLit q) (str.String (between_quotes q.text)));
  reads = l.uid p q h.reads;
  gives = λ place. uid_given place h.others h.last ids id eid (between_quotes q.text) src ts (one kind.StringLit q)
      (path_given (placed src ts (tree_name h.others h.last)).loc h.others h.last ids id h.given h.given_last h.free h.free_last) u;
}

pub entity_read : (src : List ℕ) {ts : List Lexeme} {uid : EntityUID} → IsEntity ts uid → EntityRead src ts uid
entity_read src (m.entity p n t) = uid_read src p (path_read src n) t

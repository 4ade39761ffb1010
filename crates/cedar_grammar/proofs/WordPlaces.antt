-- The places in the trees of identifiers, names and entity literals.
use Rattle.std.proofs.Common.{◌≡◌, ℕ, List, [], ◌∷◌, ◌++◌, Option, refl, sym, ◌∙◌, ap, subst, append_assoc, length, arith}
use Rattle.std.specs.List.{All, flat_map}
use Rattle.std.specs.Str.{IsUtf8}
use Rattle.std.proofs.lemmas.List.Elements.{All-nil, All-cons, All-append}
use Rattle.cedar_lexer.specs.Token.{Lexeme}
use Rattle.cedar_lexer.specs.declared.token.TokenKind.TheVariants as kind
use Rattle.cedar_syntax.specs.declared.loc.Loc.{Loc}
use Rattle.cedar_syntax.specs.declared.cst.Ident.{Ident}
use Rattle.cedar_syntax.specs.declared.cst.Name.{Name}
use Rattle.cedar_syntax.specs.declared.cst.Ref.{Ref}
use Rattle.cedar_syntax.specs.declared.cst.RefInit.{RefInit}
use Rattle.cedar_syntax.specs.declared.cst.Literal.{Literal}
use Rattle.cedar_syntax.specs.declared.cst.Str.TheVariants as str
use Rattle.cedar_grammar.specs.grammar.Grammar.{Rule, IsTreeOf}
use Rattle.cedar_grammar.specs.grammar.Place.{extent, loc_at, placed, placed_or_start}
use Rattle.cedar_syntax.specs.tokens.Tokens.{one, between_quotes}
use Rattle.cedar_syntax.specs.trees.Trees.{Cell, name_of}
use Rattle.cedar_syntax.specs.trees.TreePlaces.{IsPlace, node_places, ident_places, str_places, name_places, literal_places, ref_init_places, ref_places}
use Rattle.cedar_grammar.specs.grammar.LooseWords.{ReadsItems, one_item, more_items, ReadsList, no_item, items, items_comma, ReadsLiteral, truth, falsity, number, string, ReadsAny, any, ReadsIdent, ReadsPath, one_word, more_words, ReadsName, common, qualified, ReadsRefInit, ref_init, ReadsRef, uid, with_inits}
use Rattle.cedar_grammar.proofs.Lying.{Lies, Some_of, some_append, split, stands, laid_lies}

abbrev pub Lie : List ℕ → List (Option Loc) → Type 0
Lie src ps = All (IsPlace src) ps

-- tokens that stand in the text, of which there are some
pub record Stand (src : List ℕ) (ts : List Lexeme) : Type 0 where
  pub from : ℕ
  pub to : ℕ
  pub lies : Lies src from ts to

pub parts : (src : List ℕ) (ts us : List Lexeme) → Stand src (ts ++ us) → Stand src ts × Stand src us
parts src ts us h = let s = split src h.from ts us h.to h.lies in (record { from = h.from; to = s.0; lies = s.1 }, record { from = s.0; to = h.to; lies = s.2 })

pub node_lies : {T : Type 0} (src : List ℕ) (f : T → List (Option Loc)) (ts : List Lexeme) (x : T) → Stand src ts → Some_of ts → Lie src (f x) → Lie src (node_places f (placed src ts x))
node_lies src f ts x h s l = All-cons (IsPlace src) (loc_at src (extent ts)) (f x) (stands src h.from ts h.to h.lies s) l

flat_snoc : {T : Type 0} (f : T → List (Option Loc)) (xs : List (Cell T)) (x : Cell T) → flat_map (node_places f) (xs ++ x ∷ []) ≡ flat_map (node_places f) xs ++ (node_places f x ++ [])
flat_snoc f [] x = refl
flat_snoc f (y ∷ xs) x = ap (λ w. node_places f y ++ w) (flat_snoc f xs x) ∙ sym (append_assoc (node_places f y) (flat_map (node_places f) xs) (node_places f x ++ []))

pub more_lie : {T : Type 0} (src : List ℕ) (f : T → List (Option Loc)) (xs : List (Cell T)) (x : Cell T) → Lie src (flat_map (node_places f) xs) → Lie src (node_places f x) → Lie src (flat_map (node_places f) (xs ++ x ∷ []))
more_lie src f xs x h l = subst (Lie src) (sym (flat_snoc f xs x)) (All-append (IsPlace src) (flat_map (node_places f) xs) (node_places f x ++ []) h (All-append (IsPlace src) (node_places f x) [] l (All-nil (IsPlace src))))

-- ---- identifiers and paths

pub any_some : {ts : List Lexeme} {i : Ident} → ReadsAny ts i → Some_of ts
any_some (any p e) = tt

pub no_places : (src : List ℕ) → Lie src []
no_places src = All-nil (IsPlace src)

pub ident_lies : {src : List ℕ} {ts : List Lexeme} {i : Ident} → ReadsAny ts i → Stand src ts → Lie src (node_places ident_places (placed src ts i))
ident_lies {src = src} {ts = ts} {i = i} r h = node_lies src ident_places ts i h (any_some r) (no_places src)

pub path_some : {src : List ℕ} {ts : List Lexeme} {xs : List (Cell Ident)} {x : Cell Ident} → ReadsPath src ts xs x → Some_of ts
path_some (one_word r) = any_some r
path_some (more_words {ts = ts} {us = us} p r s) = some_append (ts ++ one kind.ColonColon p) us (some_append ts (one kind.ColonColon p) (path_some r))

pub path_lies : {src : List ℕ} {ts : List Lexeme} {xs : List (Cell Ident)} {x : Cell Ident} → ReadsPath src ts xs x → Stand src ts → Lie src (flat_map (node_places ident_places) xs) × Lie src (node_places ident_places x)
path_lies {src = src} (one_word r) h = (no_places src, ident_lies r h)
path_lies {src = src} (more_words {ts = ts} {us = us} {xs = xs} {x = x} p r s) h =
    let w = parts src (ts ++ one kind.ColonColon p) us h in
    let v = path_lies r (parts src ts (one kind.ColonColon p) w.0).0 in
    (more_lie src ident_places xs x v.0 v.1, ident_lies s w.1)

name_of_path : {src : List ℕ} {ts : List Lexeme} {xs : List (Cell Ident)} {x : Cell Ident} → ReadsPath src ts xs x → Stand src ts → Lie src (node_places name_places (placed src ts (name_of xs x)))
name_of_path {src = src} {ts = ts} {xs = xs} {x = x} r h =
    let v = path_lies r h in
    node_lies src name_places ts (name_of xs x) h (path_some r) (All-append (IsPlace src) (flat_map (node_places ident_places) xs) (node_places ident_places x) v.0 v.1)

pub name_path : {src : List ℕ} {ts : List Lexeme} {x : Name} → ReadsName src ts x → ReadsPath src ts x.path x.name
name_path (common r c) = one_word r
name_path (qualified p r s) = more_words p r s

-- ---- entity literals

pub literal_some : {src : List ℕ} {ts : List Lexeme} {x : Literal} → ReadsLiteral src ts x → Some_of ts
literal_some (truth p) = tt
literal_some (falsity p) = tt
literal_some (number p h) = tt
literal_some (string p) = tt

pub literal_lies : {src : List ℕ} {ts : List Lexeme} {x : Literal} → ReadsLiteral src ts x → Stand src ts → Lie src (literal_places x)
literal_lies {src = src} (truth p) h = no_places src
literal_lies {src = src} (falsity p) h = no_places src
literal_lies {src = src} (number p e) h = no_places src
literal_lies {src = src} (string p) h = node_lies src str_places (one kind.StringLit p) (str.String (between_quotes p.text)) h tt (no_places src)

init_some : {src : List ℕ} {ts : List Lexeme} {x : RefInit} → ReadsRefInit src ts x → Some_of ts
init_some (ref_init {ts = ts} {us = us} p r s) = some_append (ts ++ one kind.Colon p) us (some_append ts (one kind.Colon p) (any_some r))

init_lies : {src : List ℕ} {ts : List Lexeme} {x : RefInit} → ReadsRefInit src ts x → Stand src ts → Lie src (ref_init_places x)
init_lies {src = src} (ref_init {ts = ts} {us = us} {i = i} {x = x} p r s) h =
    let w = parts src (ts ++ one kind.Colon p) us h in
    All-append (IsPlace src) (node_places ident_places (placed src ts i)) (node_places literal_places (placed src us x)) (ident_lies r (parts src ts (one kind.Colon p) w.0).0)
    (node_lies src literal_places us x w.1 (literal_some s) (literal_lies s w.1))

-- the places of items, and of a list, whose trees have places of the text
pub items_lie : {T : Type 0} (src : List ℕ) (R : List Lexeme → T → Type 0) (f : T → List (Option Loc)) → ((ts : List Lexeme) (x : T) → R ts x → Some_of ts) → ((ts : List Lexeme) (x : T) → R ts x → Stand src ts → Lie src (f x)) →
    {ts : List Lexeme} {xs : List (Cell T)} → ReadsItems src R ts xs → Stand src ts → Lie src (flat_map (node_places f) xs)
items_lie src R f s l (one_item {ts = ts} {x = x} r) h = All-append (IsPlace src) (node_places f (placed src ts x)) [] (node_lies src f ts x h (s ts x r) (l ts x r h)) (no_places src)
items_lie src R f s l (more_items {ts = ts} {us = us} {xs = xs} {y = y} p r q) h =
    let w = parts src (ts ++ one kind.Comma p) us h in
    more_lie src f xs (placed src us y) (items_lie src R f s l r (parts src ts (one kind.Comma p) w.0).0) (node_lies src f us y w.1 (s us y q) (l us y q w.1))

pub list_lies : {T : Type 0} (src : List ℕ) (R : List Lexeme → T → Type 0) (f : T → List (Option Loc)) → ((ts : List Lexeme) (x : T) → R ts x → Some_of ts) → ((ts : List Lexeme) (x : T) → R ts x → Stand src ts → Lie src (f x)) →
    {ts : List Lexeme} {xs : List (Cell T)} → ReadsList src R ts xs → Stand src ts → Lie src (flat_map (node_places f) xs)
list_lies src R f s l no_item h = no_places src
list_lies src R f s l (items r) h = items_lie src R f s l r h
list_lies src R f s l (items_comma {ts = ts} p r) h = items_lie src R f s l r (parts src ts (one kind.Comma p) h).0

pub ref_some : {src : List ℕ} {ts : List Lexeme} {x : Ref} → ReadsRef src ts x → Some_of ts
ref_some (uid {ts = ts} p q r) = some_append (ts ++ one kind.ColonColon p) (one kind.StringLit q) (some_append ts (one kind.ColonColon p) (path_some r))
ref_some (with_inits {ts = ts} {us = us} p l m r s) =
    some_append (ts ++ one kind.ColonColon p ++ one kind.OpenBrace l ++ us) (one kind.CloseBrace m) (some_append (ts ++ one kind.ColonColon p ++ one kind.OpenBrace l) us
    (some_append (ts ++ one kind.ColonColon p) (one kind.OpenBrace l) (some_append ts (one kind.ColonColon p) (path_some r))))

pub ref_lies : {src : List ℕ} {ts : List Lexeme} {x : Ref} → ReadsRef src ts x → Stand src ts → Lie src (ref_places x)
ref_lies {src = src} (uid {ts = ts} {xs = xs} {x = x} p q r) h =
    let w = parts src (ts ++ one kind.ColonColon p) (one kind.StringLit q) h in
    All-append (IsPlace src) (node_places name_places (placed src ts (name_of xs x))) (node_places str_places (placed src (one kind.StringLit q) (str.String (between_quotes q.text)))) (name_of_path r (parts src ts (one kind.ColonColon p) w.0).0)
    (node_lies src str_places (one kind.StringLit q) (str.String (between_quotes q.text)) w.1 tt (no_places src))
ref_lies {src = src} (with_inits {ts = ts} {us = us} {xs = xs} {x = x} {ys = ys} p l m r s) h =
    let w = (parts src (ts ++ one kind.ColonColon p ++ one kind.OpenBrace l ++ us) (one kind.CloseBrace m) h).0 in
    let v = parts src (ts ++ one kind.ColonColon p ++ one kind.OpenBrace l) us w in
    let u = (parts src (ts ++ one kind.ColonColon p) (one kind.OpenBrace l) v.0).0 in
    All-append (IsPlace src) (node_places name_places (placed src ts (name_of xs x))) (flat_map (node_places ref_init_places) ys) (name_of_path r (parts src ts (one kind.ColonColon p) u).0) (list_lies src (ReadsRefInit src) ref_init_places (λ ts x r. init_some r) (λ ts x r h. init_lies r h) s v.1)

-- ---- the node of a whole text

pub start_is : {T : Type 0} (src : List ℕ) (ts : List Lexeme) (x : T) → Some_of ts → placed_or_start src ts x ≡ placed src ts x
start_is src [] x h = absurd h
start_is src (t ∷ ts) x h = refl

pub whole_lies : {T : Type 0} (src : List ℕ) (f : T → List (Option Loc)) (ts : List Lexeme) (x : T) (y : Cell T) → Stand src ts → Some_of ts → Lie src (f x) → y ≡ placed_or_start src ts x → Lie src (node_places f y)
whole_lies src f ts x y h s l e = subst (λ y. Lie src (node_places f y)) (sym (e ∙ start_is src ts x s)) (node_lies src f ts x h s l)

pub stand_of : {T : Type 0} {R : Rule T} (text : List ℕ) (y : Cell T) → IsUtf8 text → (g : IsTreeOf R text y) → Stand text g.tokens
stand_of text y u g = record { from = 0; to = length text; lies = laid_lies g.cut (omega arith) u }

pub ident_places_lie : (text : List ℕ) (y : Cell Ident) → IsUtf8 text → IsTreeOf ReadsIdent text y → Lie text (node_places ident_places y)
ident_places_lie text y u g = whole_lies text ident_places g.tokens g.stands.tree y (stand_of text y u g) (any_some g.stands.reads) (no_places text) g.stands.is

pub name_places_lie : (text : List ℕ) (y : Cell Name) → IsUtf8 text → IsTreeOf ReadsName text y → Lie text (node_places name_places y)
name_places_lie text y u g =
    let r = name_path g.stands.reads in
    let n : Name = g.stands.tree in
    let v = path_lies r (stand_of text y u g) in
    whole_lies text name_places g.tokens n y (stand_of text y u g) (path_some r) (All-append (IsPlace text) (flat_map (node_places ident_places) n.path) (node_places ident_places n.name) v.0 v.1) g.stands.is

pub ref_places_lie : (text : List ℕ) (y : Cell Ref) → IsUtf8 text → IsTreeOf ReadsRef text y → Lie text (node_places ref_places y)
ref_places_lie text y u g = whole_lies text ref_places g.tokens g.stands.tree y (stand_of text y u g) (ref_some g.stands.reads) (ref_lies g.stands.reads (stand_of text y u g)) g.stands.is

-- Identifiers, names, literals and entities that are read from tokens are tidy.
use Rattle.std.proofs.Common.{ℕ, List, [], ◌∷◌, ◌++◌, Option, Some, None, sym, subst}
use Rattle.cedar_lexer.specs.Token.{Lexeme}
use Rattle.cedar_lexer.specs.declared.token.TokenKind.{TokenKind}
use Rattle.cedar_lexer.specs.declared.token.TokenKind.TheVariants as kind
use Rattle.cedar_lexer.specs.Spelling.{Spells}
use Rattle.cedar_syntax.specs.declared.loc.Loc.{Loc}
use Rattle.cedar_syntax.specs.declared.cst.Ident.{Ident}
use Rattle.cedar_syntax.specs.declared.cst.Name.{Name}
use Rattle.cedar_syntax.specs.declared.cst.Ref.{Ref}
use Rattle.cedar_syntax.specs.declared.cst.Literal.{Literal}
use Rattle.cedar_grammar.specs.grammar.Place.{extent, loc_at, placed}
use Rattle.cedar_syntax.specs.tokens.Tokens.{one, any_of}
use Rattle.cedar_syntax.specs.trees.Trees.{Cell, name_of}
use Rattle.cedar_grammar.specs.grammar.LooseWords.{ReadsLiteral, truth, falsity, number, string, ReadsAny, any, ReadsPath, one_word, more_words, ReadsName, ReadsRef, uid, with_inits}
use Rattle.cedar_grammar.proofs.Lying.{Some_of}
use Rattle.cedar_grammar.proofs.WordPlaces.{any_some, path_some, name_path, literal_some, ref_some}
use Rattle.cedar_policy_parser.proofs.standing.Standing.{Origin, parsed, LiesIn}
use Rattle.cedar_policy_parser.proofs.standing.Fitting.{Spelled, Fits, around, within}
use Rattle.cedar_policy_parser.proofs.meaning.Spellings.{valid_word}
use Rattle.cedar_policy_parser.proofs.tidy.Tidy.{NodeTidy, Each, IdentHeld, IdentTidy, NameTidy, LiteralTidy, RefTidy}

pub node_within : (w : Origin) (src : List ℕ) (ts : List Lexeme) → Fits w src ts → Some_of ts → LiesIn w (loc_at src (extent ts))
node_within w src ts h s = within w src ts h s

-- a word, or an IDENTIFIER as it is spelled
abbrev WordHeld : Origin → Option Ident → Type 0
WordHeld o None = Unit {0}
WordHeld o (Some i) = IdentHeld o i

word_held : (outer : Option Loc) (k : TokenKind) (text : List ℕ) → Spells k text → WordHeld (parsed outer) (any_of k text)
word_held outer kind.Identifier text h = valid_word text h
word_held outer k text h = tt

word_read : (outer : Option Loc) {ts : List Lexeme} {i : Ident} → ReadsAny ts i → Spelled ts → IdentHeld (parsed outer) i
word_read outer (any {k = k} p e) h = subst (WordHeld (parsed outer)) e (word_held outer k p.text h.0)

pub ident_tidy : {w : Origin} {src : List ℕ} {ts : List Lexeme} {i : Ident} → ReadsAny ts i → Fits w src ts → IdentTidy w (placed src ts i)
ident_tidy {w = w} {src = src} {ts = ts} {i = i} r h = (within w src ts h (any_some r), subst (λ o. IdentHeld o i) (sym h.is) (word_read (loc_at src (Some record { start = h.low; end = h.high })) r h.spelled))

pub each_more : {X : Type 0} (P : X → Type 0) (xs : List X) (x : X) → Each P xs → P x → Each P (xs ++ x ∷ [])
each_more P [] x h p = (p, tt)
each_more P (y ∷ xs) x h p = (h.0, each_more P xs x h.1 p)

path_tidy : {w : Origin} {src : List ℕ} {ts : List Lexeme} {xs : List (Cell Ident)} {x : Cell Ident} → ReadsPath src ts xs x → Fits w src ts → NameTidy w (name_of xs x)
path_tidy (one_word r) h = (tt, ident_tidy r h)
path_tidy {w = w} {src = src} (more_words {ts = ts} {us = us} {xs = xs} {x = x} p r s) h =
    let a = around w src ts us kind.ColonColon p h in
    let b = path_tidy r a.0 in
    (each_more (IdentTidy w) xs x b.0 b.1, ident_tidy s a.1)

pub name_tidy : {w : Origin} {src : List ℕ} {ts : List Lexeme} {x : Name} → ReadsName src ts x → Fits w src ts → NodeTidy w (NameTidy w) (placed src ts x)
name_tidy {w = w} {src = src} {ts = ts} r h = (within w src ts h (path_some (name_path r)), path_tidy (name_path r) h)

literal_in : {w : Origin} {src : List ℕ} {ts : List Lexeme} {x : Literal} → ReadsLiteral src ts x → Fits w src ts → LiteralTidy w x
literal_in (truth p) h = tt
literal_in (falsity p) h = tt
literal_in (number p e) h = tt
literal_in {w = w} {src = src} (string p) h = (within w src (one kind.StringLit p) h tt, tt)

pub literal_tidy : {w : Origin} {src : List ℕ} {ts : List Lexeme} {x : Literal} → ReadsLiteral src ts x → Fits w src ts → NodeTidy w (LiteralTidy w) (placed src ts x)
literal_tidy {w = w} {src = src} {ts = ts} r h = (within w src ts h (literal_some r), literal_in r h)

ref_in : {w : Origin} {src : List ℕ} {ts : List Lexeme} {x : Ref} → ReadsRef src ts x → Fits w src ts → RefTidy w x
ref_in {w = w} {src = src} (uid {ts = ts} p q r) h =
    let a = around w src ts (one kind.StringLit q) kind.ColonColon p h in
    ((within w src ts a.0 (path_some r), path_tidy r a.0), (within w src (one kind.StringLit q) a.1 tt, tt))
ref_in (with_inits p l m r s) h = tt

pub ref_tidy : {w : Origin} {src : List ℕ} {ts : List Lexeme} {x : Ref} → ReadsRef src ts x → Fits w src ts → NodeTidy w (RefTidy w) (placed src ts x)
ref_tidy {w = w} {src = src} {ts = ts} r h = (within w src ts h (ref_some r), ref_in r h)

-- The loose grammar of identifiers, names and entity literals, and the lists of the grammar: one
-- case for each rule. A tree is put as a node at the place of its tokens: from the first byte of
-- the first to the end of the last. `src` is the whole text, which each place carries.
use Rattle.std.specs.Prelude.{◌≡◌, ℕ, true, false, Bool, List, [], ◌∷◌, ◌++◌, Some, IsTrue}
use Rattle.cedar_lexer.specs.Token.{Lexeme}
use Rattle.cedar_lexer.specs.declared.token.TokenKind.{TokenKind}
use Rattle.cedar_lexer.specs.declared.token.TokenKind.TheVariants as kind
use Rattle.cedar_syntax.specs.declared.cst.Ident.{Ident}
use Rattle.cedar_syntax.specs.declared.cst.Ident.TheVariants as ident
use Rattle.cedar_syntax.specs.declared.cst.Name.{Name}
use Rattle.cedar_syntax.specs.declared.cst.Ref.{Ref}
use Rattle.cedar_syntax.specs.declared.cst.Ref.TheVariants as ref
use Rattle.cedar_syntax.specs.declared.cst.RefInit.{RefInit}
use Rattle.cedar_syntax.specs.declared.cst.Literal.{Literal}
use Rattle.cedar_syntax.specs.declared.cst.Literal.TheVariants as literal
use Rattle.cedar_syntax.specs.declared.cst.Str.TheVariants as str
use Rattle.cedar_grammar.specs.grammar.Place.{placed}
use Rattle.cedar_syntax.specs.tokens.Tokens.{Spot, one, number_of, fits, between_quotes, any_of}
use Rattle.cedar_syntax.specs.trees.Trees.{Cell, name_of, ref_init_of}

-- items separated by commas, one or more
pub data ReadsItems {T : Type 0} (src : List ℕ) (R : List Lexeme → T → Type 0) : List Lexeme →
    List (Cell T) → Type 0 where
  one_item : {ts : List Lexeme} {x : T} → R ts x → ReadsItems src R ts (placed src ts x ∷ [])
  more_items : {ts us : List Lexeme} {xs : List (Cell T)} {y : T} (p : Spot) →
      ReadsItems src R ts xs → R us y →
      ReadsItems src R (ts ++ one kind.Comma p ++ us) (xs ++ placed src us y ∷ [])

-- List(x): nothing, or items separated by commas and possibly one comma behind the last
pub data ReadsList {T : Type 0} (src : List ℕ) (R : List Lexeme → T → Type 0) : List Lexeme →
    List (Cell T) → Type 0 where
  no_item : ReadsList src R [] []
  items : {ts : List Lexeme} {xs : List (Cell T)} → ReadsItems src R ts xs → ReadsList src R ts xs
  items_comma : {ts : List Lexeme} {xs : List (Cell T)} (p : Spot) → ReadsItems src R ts xs →
      ReadsList src R (ts ++ one kind.Comma p) xs

-- Literal = TRUE | FALSE | NUMBER | STRINGLIT
pub data ReadsLiteral (src : List ℕ) : List Lexeme → Literal → Type 0 where
  truth : (p : Spot) → ReadsLiteral src (one kind.True p) literal.True
  falsity : (p : Spot) → ReadsLiteral src (one kind.False p) literal.False
  -- a number has a tree only if it fits
  number : (p : Spot) → IsTrue (fits p.text) →
      ReadsLiteral src (one kind.Number p) (literal.Num (number_of p.text))
  string : (p : Spot) →
      ReadsLiteral src (one kind.StringLit p)
      (literal.Str (placed src (one kind.StringLit p) (str.String (between_quotes p.text))))

-- Any
pub data ReadsAny : List Lexeme → Ident → Type 0 where
  any : {k : TokenKind} {i : Ident} (p : Spot) → any_of k p.text ≡ Some i → ReadsAny (one k p) i

-- what `parse_ident` reads
abbrev pub ReadsIdent : List ℕ → List Lexeme → Ident → Type 0
ReadsIdent src ts i = ReadsAny ts i

-- Path = Any ("::" Any)*: the identifiers before the last one, and the last one
pub data ReadsPath (src : List ℕ) : List Lexeme → List (Cell Ident) → Cell Ident → Type 0 where
  one_word : {ts : List Lexeme} {i : Ident} → ReadsAny ts i → ReadsPath src ts [] (placed src ts i)
  more_words : {ts us : List Lexeme} {xs : List (Cell Ident)} {x : Cell Ident} {i : Ident}
      (p : Spot) → ReadsPath src ts xs x → ReadsAny us i →
      ReadsPath src (ts ++ one kind.ColonColon p ++ us) (xs ++ x ∷ []) (placed src us i)

-- Common: Any without TRUE, FALSE, IF
abbrev pub is_common : Ident → Bool
is_common ident.True = false
is_common ident.False = false
is_common ident.If = false
is_common _ = true

-- Name = Common | Path of two or more
pub data ReadsName (src : List ℕ) : List Lexeme → Name → Type 0 where
  common : {ts : List Lexeme} {i : Ident} → ReadsAny ts i → IsTrue (is_common i) →
      ReadsName src ts (name_of [] (placed src ts i))
  qualified : {ts us : List Lexeme} {xs : List (Cell Ident)} {x : Cell Ident} {i : Ident}
      (p : Spot) → ReadsPath src ts xs x → ReadsAny us i →
      ReadsName src (ts ++ one kind.ColonColon p ++ us) (name_of (xs ++ x ∷ []) (placed src us i))

-- RefInit = Any ":" Literal
pub data ReadsRefInit (src : List ℕ) : List Lexeme → RefInit → Type 0 where
  ref_init : {ts us : List Lexeme} {i : Ident} {x : Literal} (p : Spot) → ReadsAny ts i →
      ReadsLiteral src us x →
      ReadsRefInit src (ts ++ one kind.Colon p ++ us)
      (ref_init_of (placed src ts i) (placed src us x))

-- Ref = Path "::" STRINGLIT | Path "::" "{" List(RefInit) "}"
pub data ReadsRef (src : List ℕ) : List Lexeme → Ref → Type 0 where
  uid : {ts : List Lexeme} {xs : List (Cell Ident)} {x : Cell Ident} (p q : Spot) →
      ReadsPath src ts xs x →
      ReadsRef src (ts ++ one kind.ColonColon p ++ one kind.StringLit q)
      (ref.Uid (placed src ts (name_of xs x))
      (placed src (one kind.StringLit q) (str.String (between_quotes q.text))))
  with_inits : {ts us : List Lexeme} {xs : List (Cell Ident)} {x : Cell Ident}
      {ys : List (Cell RefInit)} (p l m : Spot) → ReadsPath src ts xs x →
      ReadsList src (ReadsRefInit src) us ys →
      ReadsRef src
      (ts ++ one kind.ColonColon p ++ one kind.OpenBrace l ++ us ++ one kind.CloseBrace m)
      (ref.Ref (placed src ts (name_of xs x)) ys)

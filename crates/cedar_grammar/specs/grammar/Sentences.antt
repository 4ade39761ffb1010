-- Which kinds of token may stand behind tokens: those with which some tokens that have a tree go
-- on. `R` is any relation of tokens and trees.
use Rattle.std.specs.Prelude.{◌≡◌, List, [], ◌∷◌, ◌++◌, Option, Some, None}
use Rattle.cedar_lexer.specs.Token.{Lexeme}
use Rattle.cedar_lexer.specs.declared.token.TokenKind.{TokenKind}

abbrev pub kinds : List Lexeme → List TokenKind
kinds [] = []
kinds (t ∷ ts) = t.kind ∷ kinds ts

abbrev pub HasTree : {T : Type 0} → (List Lexeme → T → Type 0) → List Lexeme → Type 0
HasTree {T = T} R ts = (x : T) × R ts x

-- with some more tokens these have a tree
abbrev pub Starts : {T : Type 0} → (List Lexeme → T → Type 0) → List Lexeme → Type 0
Starts R ts = (more : List Lexeme) × HasTree R (ts ++ more)

-- there are tokens of these kinds that have a tree; their texts are free, but numbers fit
pub record Sentence {T : Type 0} (R : List Lexeme → T → Type 0)
    (ks : List TokenKind) : Type 0 where
  pub tokens : List Lexeme
  pub spelled : kinds tokens ≡ ks
  pub tree : T
  pub reads : R tokens tree

-- some sentence goes on with this kind behind those, or ends there
abbrev pub Allowed : {T : Type 0} → (List Lexeme → T → Type 0) → List TokenKind →
    Option TokenKind → Type 0
Allowed R ks (Some k) = (more : List TokenKind) × Sentence R (ks ++ k ∷ more)
Allowed R ks None = Sentence R ks

-- what stands behind these tokens, a kind or the end, is the first that no sentence allows
pub record IsFirstRefused {T : Type 0} (R : List Lexeme → T → Type 0) (ts : List Lexeme)
    (after : Option TokenKind) : Type 0 where
  pub starts : Starts R ts
  pub refuses : ¬ (Allowed R (kinds ts) after)

-- the first kind, or the end
abbrev pub first : List Lexeme → Option TokenKind
first [] = None
first (t ∷ ts) = Some t.kind

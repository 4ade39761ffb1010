-- All faults of tokens that are read as policies. Where one is refused, the tokens are mended, if
-- that can be: in a condition's braces what stands there is taken out, elsewhere a short policy is
-- put in the place of the one that is begun. So the list has the fault of the first token that is
-- refused, and then the faults of the mended tokens, which are read anew.
use Rattle.std.specs.Prelude.{◌≡◌, ℕ, false, List, [], ◌∷◌, ◌++◌, Option, Some, None}
use Rattle.std.specs.List.{AllByRecursion}
use Rattle.cedar_lexer.specs.Token.{Lexeme}
use Rattle.cedar_lexer.specs.declared.token.TokenKind.{TokenKind}
use Rattle.cedar_lexer.specs.declared.token.TokenKind.TheVariants as kind
use Rattle.cedar_syntax.specs.declared.cst.Ident.{Ident}
use Rattle.cedar_syntax.specs.declared.cst.Annotation.{Annotation}
use Rattle.cedar_syntax.specs.declared.cst.VariableDef.{VariableDef}
use Rattle.cedar_syntax.specs.declared.cst.Cond.{Cond}
use Rattle.cedar_syntax.specs.tokens.Tokens.{Spot, one, fits}
use Rattle.cedar_syntax.specs.trees.Trees.{Cell}
use Rattle.cedar_grammar.specs.grammar.LooseWords.{ReadsAny, ReadsList}
use Rattle.cedar_grammar.specs.grammar.LoosePolicies.{ReadsMany, ReadsAnnotation, ReadsVariableDef, ReadsBody, ReadsCond, ReadsPolicy}
use Rattle.cedar_grammar.specs.grammar.Sentences.{kinds, HasTree, Starts, Allowed, IsFirstRefused, first}

-- `W` says which tokens may stand before the policy in which a fault is met: whole policies, or
-- nothing where one policy is read alone.

-- Annotation* Any "(" List(VariableDef) ")" Cond*: all of a policy but its semicolon
pub data OpenPolicy (src : List ℕ) : List Lexeme → Type 0 where
  open_policy : {ts us vs ws : List Lexeme} {xs : List (Cell Annotation)} {i : Ident}
      {ys : List (Cell VariableDef)} {zs : List (Cell Cond)} (l m : Spot) →
      ReadsMany src (ReadsAnnotation src) ts xs → ReadsAny us i →
      ReadsList src (ReadsVariableDef src) vs ys → ReadsMany src (ReadsCond src) ws zs →
      OpenPolicy src (ts ++ us ++ one kind.OpenParen l ++ vs ++ one kind.CloseParen m ++ ws)

-- tokens that stop inside a condition's open braces, parted behind the `{`. The first group is
-- tokens of `W`, all of a policy but its semicolon, and the word and `{` of one more condition.
-- The second begins an expression, or is empty
pub data InBraces (src : List ℕ) (W : List Lexeme → Type 0) : List Lexeme → List Lexeme →
    Type 0 where
  in_braces : (ts us : List Lexeme) {ws vs : List Lexeme} {i : Ident} (l : Spot) → W ts →
      OpenPolicy src us → ReadsAny ws i → Starts (ReadsBody src) vs →
      InBraces src W (ts ++ us ++ ws ++ one kind.OpenBrace l) vs

-- these tokens stop inside a condition's open braces
pub record EndsInBraces (src : List ℕ) (W : List Lexeme → Type 0)
    (ts : List Lexeme) : Type 0 where
  pub opened : List Lexeme
  pub within : List Lexeme
  pub is : opened ++ within ≡ ts
  pub braces : InBraces src W opened within

-- these tokens begin a policy, and more of it is to come; they may be none
abbrev pub BegunPolicy : List ℕ → List Lexeme → Type 0
BegunPolicy src us = (t : Lexeme) × Starts (ReadsPolicy src) (us ++ t ∷ [])

-- no token of these is of this kind
abbrev pub NoneIs : TokenKind → List Lexeme → Type 0
NoneIs k ts = AllByRecursion (λ t. ¬ (t.kind ≡ k)) ts

-- a short policy: an identifier and `()`, which stand nowhere in the text, and this semicolon

abbrev pub stub_token : TokenKind → List Lexeme
stub_token k = one k record { start = 0; end = 0; text = [] }

abbrev pub short_policy : Spot → List Lexeme
short_policy e =
    stub_token kind.Identifier ++ stub_token kind.OpenParen ++ stub_token kind.CloseParen
    ++ one kind.Semicolon e

-- the tokens before the one that is refused, or before the end; the tokens from there on; and what
-- both are mended to
pub data Mended (src : List ℕ) (W : List Lexeme → Type 0) : List Lexeme → List Lexeme →
    List Lexeme → Type 0 where
  -- in a condition's braces, where a `}` comes before any `;`: what stands in the braces before it
  -- is taken out
  to_brace : (ts us vs ws : List Lexeme) (e : Spot) → InBraces src W ts us →
      NoneIs kind.CloseBrace vs → NoneIs kind.Semicolon vs →
      Mended src W (ts ++ us) (vs ++ one kind.CloseBrace e ++ ws)
      (ts ++ one kind.CloseBrace e ++ ws)
  -- elsewhere, and in braces where a `;` comes before any `}`: a short policy is put in the place
  -- of the one that is begun, and of all through the first `;`
  to_end : (ts us vs ws : List Lexeme) (e : Spot) → W ts → BegunPolicy src us →
      (EndsInBraces src W (ts ++ us) → NoneIs kind.CloseBrace vs) → NoneIs kind.Semicolon vs →
      Mended src W (ts ++ us) (vs ++ one kind.Semicolon e ++ ws) (ts ++ short_policy e ++ ws)

-- the first token, or the end
abbrev pub head : List Lexeme → Option Lexeme
head [] = None
head (t ∷ ts) = Some t

-- the faults of tokens that are read by the rule `R`: the list of those that are mended, in order,
-- and the one at which the parse stops, if it does. `U` gives the fault of a token, or of the end,
-- that is refused behind the tokens before it; `L` that of a number that doesn't fit
pub data Faults {T F : Type 0} (src : List ℕ) (R : List Lexeme → T → Type 0)
    (W : List Lexeme → Type 0) (U : List Lexeme → Option Lexeme → F → Type 0)
    (L : Lexeme → F → Type 0) : List Lexeme → List F → Option F → Type 0 where
  -- tokens that have a tree have none
  no_fault : {ts : List Lexeme} → HasTree R ts → Faults src R W U L ts [] None
  -- the parse stops at a number that doesn't fit, where some number may stand
  too_large : (ts us : List Lexeme) {t : Lexeme} {x : F} → Starts R ts →
      Allowed R (kinds ts) (Some kind.Number) → t.kind ≡ kind.Number → fits t.text ≡ false →
      L t x → Faults src R W U L (ts ++ t ∷ us) [] (Some x)
  -- it stops at the first token that is refused, or the end, where that can't be mended
  last_fault : (ts us : List Lexeme) {x : F} → IsFirstRefused R ts (first us) → U ts (head us) x →
      ((vs : List Lexeme) → ¬ (Mended src W ts us vs)) →
      Faults src R W U L (ts ++ us) [] (Some x)
  -- where it can, its fault is followed by those of the mended tokens
  more_faults : (ts us : List Lexeme) {vs : List Lexeme} {x : F} {xs : List F} {y : Option F} →
      IsFirstRefused R ts (first us) → U ts (head us) x → Mended src W ts us vs →
      Faults src R W U L vs xs y →
      Faults src R W U L (ts ++ us) (x ∷ xs) y

-- The law of equal words: what tokens are read as, other tokens with the same words are read as
-- too, up to places. A word is a token's kind and text.
use Rattle.std.specs.Prelude.{◌≡◌, ℕ, List}
use Rattle.cedar_lexer.specs.Token.{Lexeme}
use Rattle.cedar_lexer.specs.Words.{words_of}
use Rattle.cedar_grammar.specs.grammar.Grammar.{Rule}

-- tokens have a tree of this content
pub record Again {X F : Type 0} (R : Rule X) (bare : X → F) (f : F) (src : List ℕ)
    (us : List Lexeme) : Type 0 where
  pub tree : X
  pub reads : R src us tree
  pub same : bare tree ≡ f

abbrev pub SameWordsLaw : {T F : Type 0} → Rule T → (T → F) → Type 0
SameWordsLaw {T = T} R bare = (source text : List ℕ) (ts us : List Lexeme) (x : T) →
    R source ts x → words_of us ≡ words_of ts → Again R bare (bare x) text us

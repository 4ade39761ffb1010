-- Each sentence, which is kinds of token that have a tree, is the cut of some text. What may come
-- next is told by tokens that may be the cut of no text (`Sentences` of cedar_grammar).
use Rattle.std.specs.Prelude.{◌≡◌, ℕ, List}
use Rattle.std.specs.Str.{IsUtf8}
use Rattle.cedar_lexer.specs.Cut.{Cuts}
use Rattle.cedar_lexer.specs.Token.{Lexeme}
use Rattle.cedar_lexer.specs.declared.token.TokenKind.{TokenKind}
use Rattle.cedar_grammar.specs.grammar.Grammar.{Rule}
use Rattle.cedar_grammar.specs.grammar.Sentences.{kinds, HasTree, Sentence}

-- a text that cuts into tokens of these kinds, which have a tree by the rule
pub record SentenceText {T : Type 0} (R : Rule T) (ks : List TokenKind) : Type 0 where
  pub text : List ℕ
  pub utf8 : IsUtf8 text
  pub tokens : List Lexeme
  pub cut : Cuts text tokens
  pub spelled : kinds tokens ≡ ks
  pub tree : HasTree (R text) tokens

-- a law of a rule: each sentence has such a text. So a kind that is allowed somewhere has a
-- completing sentence of tokens that a text can have
abbrev pub StandsInText : {T : Type 0} → Rule T → Type 0
StandsInText R = (src : List ℕ) (ks : List TokenKind) → Sentence (R src) ks → SentenceText R ks

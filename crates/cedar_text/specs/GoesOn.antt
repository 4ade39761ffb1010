-- A text that begins correctly goes on, as text, with each kind of token that is allowed: other
-- bytes stand behind it.
use Rattle.std.specs.Prelude.{◌≡◌, ℕ, List, ◌++◌, take}
use Rattle.std.specs.Str.{IsUtf8}
use Rattle.cedar_lexer.specs.Cut.{Cuts, Layout}
use Rattle.cedar_lexer.specs.Token.{Lexeme}
use Rattle.cedar_lexer.specs.declared.token.TokenKind.{TokenKind}
use Rattle.cedar_grammar.specs.grammar.Grammar.{Rule}
use Rattle.cedar_grammar.specs.grammar.Sentences.{kinds, HasTree, Starts, Sentence}

-- bytes that make a text behind these, whose tokens are these and then some of these kinds, and
-- have a tree by the rule
pub record Completion {T : Type 0} (R : Rule T) (front : List ℕ) (ts : List Lexeme)
    (ks : List TokenKind) : Type 0 where
  pub rest : List ℕ
  pub utf8 : IsUtf8 (front ++ rest)
  pub behind : List Lexeme
  pub cut : Cuts (front ++ rest) (ts ++ behind)
  pub spelled : kinds behind ≡ ks
  pub tree : HasTree (R (front ++ rest)) (ts ++ behind)

-- a law of a rule: where a text is laid out into tokens with which a sentence begins, its bytes up
-- to there go on with all kinds with which a sentence does; so also with each kind that is
-- expected there
abbrev pub GoesOnInText : {T : Type 0} → Rule T → Type 0
GoesOnInText R =
    (text : List ℕ) (ts : List Lexeme) (place : ℕ) (ks : List TokenKind) → IsUtf8 text →
    Layout text 0 ts place → Starts (R text) ts → Sentence (R text) (kinds ts ++ ks) →
    Completion R (take place text) ts ks

-- The words of tokens: their kinds and texts, without their places; and a text of words with one
-- space between two.
use Rattle.std.specs.Prelude.{ℕ, List, [], ◌∷◌, ◌++◌, codes}
use Rattle.cedar_lexer.specs.declared.token.TokenKind.{TokenKind}
use Rattle.cedar_lexer.specs.declared.token.TokenKind.TheVariants as kind
use Rattle.cedar_lexer.specs.Token.{Lexeme}
use Rattle.cedar_lexer.specs.Spelling.{Spells}

-- a token without its place
pub record TokenText : Type 0 where
  pub kind : TokenKind
  pub text : List ℕ

abbrev pub written : Lexeme → TokenText
written t = record { kind = t.kind; text = t.text }

abbrev pub words_of : List Lexeme → List TokenText
words_of [] = []
words_of (t ∷ ts) = written t ∷ words_of ts

abbrev pub texts_of : List TokenText → List (List ℕ)
texts_of [] = []
texts_of (w ∷ ws) = w.text ∷ texts_of ws

-- each is a spelling of its kind
abbrev pub AreSpelled : List TokenText → Type 0
AreSpelled [] = Unit {0}
AreSpelled (w ∷ ws) = Spells w.kind w.text × AreSpelled ws

-- the two parentheses
abbrev pub open_word : TokenText
open_word = record { kind = kind.OpenParen; text = codes "(" }

abbrev pub close_word : TokenText
close_word = record { kind = kind.CloseParen; text = codes ")" }

-- tokens behind others: a space before each
abbrev pub spaced_tokens : List (List ℕ) → List ℕ
spaced_tokens [] = []
spaced_tokens (t ∷ ts) = codes " " ++ (t ++ spaced_tokens ts)

-- tokens with one space between two, and nothing before or after
abbrev pub tokens_text : List (List ℕ) → List ℕ
tokens_text [] = []
tokens_text (t ∷ ts) = t ++ spaced_tokens ts

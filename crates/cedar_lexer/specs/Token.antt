-- A token of a text, as contracts see it.
use Rattle.std.specs.Prelude.{ℕ, List}
use Rattle.cedar_lexer.specs.declared.token.TokenKind.{TokenKind}
use Rattle.cedar_lexer.specs.declared.token.Token.{Token}

-- its kind, the bytes from `start` to before `end` where it stands, and its text as bytes
pub record Lexeme : Type 0 where
  pub kind : TokenKind
  pub start : ℕ
  pub end : ℕ
  pub text : List ℕ

-- the token that the program hands out, with its text read
abbrev pub lexeme_of : Token → Lexeme
lexeme_of t = record { kind = t.kind; start = t.start; end = t.end; text = t.text.now }

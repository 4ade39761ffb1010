-- What the parser asks of the tokens that it is given: the lexer's tokens are so.
use Rattle.std.specs.Prelude.{◌≡◌, ℕ, List, ◌++◌, codes}
use Rattle.std.specs.Str.Parse.{IsNumeral}
use Rattle.cedar_lexer.specs.Token.{Lexeme}
use Rattle.cedar_lexer.specs.declared.token.TokenKind.{TokenKind}
use Rattle.cedar_lexer.specs.declared.token.TokenKind.TheVariants as kind

-- a number is digits, and a string stands between two quotes
abbrev pub Written : TokenKind → List ℕ → Type 0
Written kind.Number text = IsNumeral 10 text
Written kind.StringLit text = (raw : List ℕ) × (text ≡ codes "\"" ++ raw ++ codes "\"")
Written _ text = Unit {0}

abbrev pub IsWritten : Lexeme → Type 0
IsWritten t = Written t.kind t.text

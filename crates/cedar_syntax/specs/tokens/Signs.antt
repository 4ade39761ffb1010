-- Signs before an operand, and the operators of a sum. No tree is named here: the strict grammar
-- uses it too.
use Rattle.std.specs.Prelude.{ℕ, ◌+◌, List, ◌++◌}
use Rattle.cedar_lexer.specs.Token.{Lexeme}
use Rattle.cedar_lexer.specs.declared.token.TokenKind.{TokenKind}
use Rattle.cedar_lexer.specs.declared.token.TokenKind.TheVariants as kind
use Rattle.cedar_expressions.specs.declared.operators.AddOp.{AddOp}
use Rattle.cedar_expressions.specs.declared.operators.AddOp.TheVariants as sum
use Rattle.cedar_syntax.specs.tokens.Tokens.{Spot, one}

-- so many signs before an operand are counted; more are too many, whatever their number
abbrev pub sign_limit : ℕ
sign_limit = 8

-- "+" | "-"
pub data ReadsAddOp : TokenKind → AddOp → Type 0 where
  plus : ReadsAddOp kind.Plus sum.Plus
  minus : ReadsAddOp kind.Minus sum.Minus

-- one sign or more, all of one kind, and how many they are
pub data ReadsSigns (k : TokenKind) : List Lexeme → ℕ → Type 0 where
  one_sign : (p : Spot) → ReadsSigns k (one k p) 1
  more_signs : {ts : List Lexeme} {n : ℕ} (p : Spot)
      → ReadsSigns k ts n → ReadsSigns k (ts ++ one k p) (n + 1)

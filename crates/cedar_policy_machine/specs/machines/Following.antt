-- Which kinds may stand behind the parts of an element of the scope.
use Rattle.cedar_lexer.specs.declared.token.TokenKind.{TokenKind}
use Rattle.cedar_lexer.specs.declared.token.TokenKind.TheVariants as kind
use Rattle.cedar_syntax.specs.declared.cst.RelOp.{RelOp}
use Rattle.cedar_grammar.specs.grammar.LooseExpressions.{ReadsRelOp}

-- behind an element
pub data IsParting : TokenKind → Type 0 where
  comma : IsParting kind.Comma
  close_paren : IsParting kind.CloseParen

-- behind the sum of an `is`
pub data FollowsSum : TokenKind → Type 0 where
  operator : {k : TokenKind} (o : RelOp) → ReadsRelOp k o → FollowsSum k
  parting : {k : TokenKind} → IsParting k → FollowsSum k

-- behind the name of a `:`
pub data FollowsName : TokenKind → Type 0 where
  is_word : FollowsName kind.Is
  as_sum : {k : TokenKind} → FollowsSum k → FollowsName k

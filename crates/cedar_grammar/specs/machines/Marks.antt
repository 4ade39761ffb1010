-- The kinds of token that part the forms of a policy, each as its mark, and all others as `Other`;
-- and which operator of a relation a kind is.
use Rattle.std.specs.Prelude.{Option, Some, None}
use Rattle.cedar_lexer.specs.declared.token.TokenKind.{TokenKind}
use Rattle.cedar_lexer.specs.declared.token.TokenKind.TheVariants as kind
use Rattle.cedar_syntax.specs.declared.cst.RelOp.{RelOp}
use Rattle.cedar_syntax.specs.declared.cst.RelOp.TheVariants as rel
use Rattle.cedar_grammar.specs.declared.reading.mark.Mark.{Mark}
use Rattle.cedar_grammar.specs.declared.reading.mark.Mark.TheVariants as mark

abbrev pub mark_of : TokenKind → Mark
mark_of kind.At = mark.At
mark_of kind.OpenParen = mark.OpenParen
mark_of kind.CloseParen = mark.CloseParen
mark_of kind.OpenBrace = mark.OpenBrace
mark_of kind.CloseBrace = mark.CloseBrace
mark_of kind.Comma = mark.Comma
mark_of kind.Colon = mark.Colon
mark_of kind.Semicolon = mark.Semicolon
mark_of kind.Is = mark.Is
mark_of kind.StringLit = mark.String
mark_of _ = mark.Other

-- the operator of a relation, or none
abbrev pub relation_of : TokenKind → Option RelOp
relation_of kind.Less = Some rel.Less
relation_of kind.LessEq = Some rel.LessEq
relation_of kind.GreaterEq = Some rel.GreaterEq
relation_of kind.Greater = Some rel.Greater
relation_of kind.NotEq = Some rel.NotEq
relation_of kind.EqEq = Some rel.Eq
relation_of kind.In = Some rel.In
relation_of kind.Eq = Some rel.InvalidSingleEq
relation_of _ = None

-- The classes of tokens that Cedar's grammar of expressions tells apart, where an operand is
-- wanted and behind one; and the signs before an operand.
use Rattle.std.specs.Prelude.{◌+◌, [], Option, Some, None, cond, nat_lt}
use Rattle.cedar_lexer.specs.declared.token.TokenKind.{TokenKind}
use Rattle.cedar_lexer.specs.declared.token.TokenKind.TheVariants as kind
use Rattle.cedar_expressions.specs.declared.operators.AddOp.TheVariants as sum
use Rattle.cedar_syntax.specs.declared.cst.Ident.{Ident}
use Rattle.cedar_syntax.specs.declared.cst.NegOp.{NegOp}
use Rattle.cedar_syntax.specs.declared.cst.NegOp.TheVariants as neg
use Rattle.cedar_syntax.specs.declared.cst.RelOp.TheVariants as rel
use Rattle.cedar_syntax.specs.declared.cst.MultOp.TheVariants as product
use Rattle.cedar_grammar.specs.declared.reading.class.Sign.{Sign}
use Rattle.cedar_grammar.specs.declared.reading.class.Sign.TheVariants as sign
use Rattle.cedar_grammar.specs.declared.reading.class.SlotToken.TheVariants as slot_token
use Rattle.cedar_grammar.specs.declared.reading.class.StartClass.{StartClass}
use Rattle.cedar_grammar.specs.declared.reading.class.StartClass.TheVariants as beginning
use Rattle.cedar_grammar.specs.declared.reading.class.Closing.TheVariants as closing
use Rattle.cedar_grammar.specs.declared.reading.class.AccessStart.TheVariants as opens
use Rattle.cedar_grammar.specs.declared.reading.class.SideWord.TheVariants as side
use Rattle.cedar_grammar.specs.declared.reading.class.FollowClass.{FollowClass}
use Rattle.cedar_grammar.specs.declared.reading.class.FollowClass.TheVariants as operator
use Rattle.cedar_syntax.specs.tokens.Tokens.{any_of}
use Rattle.cedar_syntax.specs.tokens.Signs.{sign_limit}

-- what a mark is where an operand is wanted; whether a number fits is found where it is read
abbrev pub mark_class : TokenKind → StartClass
mark_class kind.Number = beginning.Number
mark_class kind.StringLit = beginning.String
mark_class kind.PrincipalSlot = beginning.Slot slot_token.Principal
mark_class kind.ResourceSlot = beginning.Slot slot_token.Resource
mark_class kind.OtherSlot = beginning.Slot slot_token.Other
mark_class kind.Bang = beginning.Sign sign.Bang
mark_class kind.Minus = beginning.Sign sign.Dash
mark_class kind.OpenParen = beginning.Paren
mark_class kind.OpenBracket = beginning.Bracket
mark_class kind.OpenBrace = beginning.Brace
mark_class kind.CloseParen = beginning.Ends closing.Paren
mark_class kind.CloseBracket = beginning.Ends closing.Bracket
mark_class kind.CloseBrace = beginning.Ends closing.Brace
mark_class _ = beginning.Other

-- a word of the language, too, is a word where an operand is wanted
abbrev pub class_or_word : TokenKind → Option Ident → StartClass
class_or_word k (Some i) = beginning.Word
class_or_word k None = mark_class k

-- what a token of this kind is where an operand is wanted
abbrev pub start_class : TokenKind → StartClass
start_class k = class_or_word k (any_of k [])

-- what a token is behind an operand
abbrev pub follow_class : TokenKind → FollowClass
follow_class kind.Dot = operator.Access opens.Dot
follow_class kind.OpenParen = operator.Access opens.Paren
follow_class kind.OpenBracket = operator.Access opens.Bracket
follow_class kind.Star = operator.Multiply product.Times
follow_class kind.Slash = operator.Multiply product.Divide
follow_class kind.Percent = operator.Multiply product.Mod
follow_class kind.Plus = operator.Sum sum.Plus
follow_class kind.Minus = operator.Sum sum.Minus
follow_class kind.Less = operator.Compare rel.Less
follow_class kind.LessEq = operator.Compare rel.LessEq
follow_class kind.GreaterEq = operator.Compare rel.GreaterEq
follow_class kind.Greater = operator.Compare rel.Greater
follow_class kind.NotEq = operator.Compare rel.NotEq
follow_class kind.EqEq = operator.Compare rel.Eq
follow_class kind.In = operator.Compare rel.In
follow_class kind.Eq = operator.Compare rel.InvalidSingleEq
follow_class kind.Has = operator.Side side.Has
follow_class kind.Like = operator.Side side.Like
follow_class kind.Is = operator.Side side.Is
follow_class kind.AndAnd = operator.And
follow_class kind.OrOr = operator.Or
follow_class kind.CloseParen = operator.Ends closing.Paren
follow_class kind.CloseBracket = operator.Ends closing.Bracket
follow_class kind.CloseBrace = operator.Ends closing.Brace
follow_class kind.Comma = operator.Ends closing.Comma
follow_class kind.Colon = operator.Ends closing.Colon
follow_class kind.Then = operator.Ends closing.Then
follow_class kind.Else = operator.Ends closing.Else
follow_class _ = operator.Other

-- one sign more: both kinds of sign never stand together
abbrev pub with_sign : Option NegOp → Sign → Option NegOp
with_sign None sign.Bang = Some (neg.Bang 1)
with_sign None sign.Dash = Some (neg.Dash 1)
with_sign (Some (neg.Bang n)) sign.Bang =
    Some (cond (nat_lt n sign_limit) (neg.Bang (n + 1)) neg.OverBang)
with_sign (Some (neg.Bang n)) sign.Dash = None
with_sign (Some neg.OverBang) sign.Bang = Some neg.OverBang
with_sign (Some neg.OverBang) sign.Dash = None
with_sign (Some (neg.Dash n)) sign.Bang = None
with_sign (Some (neg.Dash n)) sign.Dash =
    Some (cond (nat_lt n sign_limit) (neg.Dash (n + 1)) neg.OverDash)
with_sign (Some neg.OverDash) sign.Bang = None
with_sign (Some neg.OverDash) sign.Dash = Some neg.OverDash

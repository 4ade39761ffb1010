-- What the style asks of a word's kind.
use Rattle.std.specs.Prelude.{Bool, true, false, ◌||◌}
use Rattle.cedar_lexer.specs.declared.token.TokenKind.{TokenKind}
use Rattle.cedar_lexer.specs.declared.token.TokenKind.TheVariants.{True, False, If, Permit, Forbid, When, Unless, In, Has, Like, Is, Then, Else, Principal, Action, Resource, Context, Identifier, Number, StringLit, PrincipalSlot, ResourceSlot, OtherSlot, At, Comma, Semicolon, OpenParen, CloseParen, OpenBrace, CloseBrace, OpenBracket, CloseBracket}

abbrev pub opens : TokenKind → Bool
opens OpenParen = true
opens OpenBrace = true
opens OpenBracket = true
opens kind = false

abbrev pub closes : TokenKind → Bool
closes CloseParen = true
closes CloseBrace = true
closes CloseBracket = true
closes kind = false

-- letters: a word of the language or an identifier
abbrev pub is_lettered : TokenKind → Bool
is_lettered True = true
is_lettered False = true
is_lettered If = true
is_lettered Permit = true
is_lettered Forbid = true
is_lettered When = true
is_lettered Unless = true
is_lettered In = true
is_lettered Has = true
is_lettered Like = true
is_lettered Is = true
is_lettered Then = true
is_lettered Else = true
is_lettered Principal = true
is_lettered Action = true
is_lettered Resource = true
is_lettered Context = true
is_lettered Identifier = true
is_lettered kind = false

-- an operand may end with it
abbrev pub ends_operand : TokenKind → Bool
ends_operand If = false
ends_operand Then = false
ends_operand Else = false
ends_operand In = false
ends_operand Has = false
ends_operand Like = false
ends_operand Is = false
ends_operand Number = true
ends_operand StringLit = true
ends_operand PrincipalSlot = true
ends_operand ResourceSlot = true
ends_operand OtherSlot = true
ends_operand kind = is_lettered kind || closes kind

-- a list or a record opens with it
abbrev pub is_list : TokenKind → Bool
is_list OpenBracket = true
is_list OpenBrace = true
is_list kind = false

-- a condition begins with it
abbrev pub begins_condition : TokenKind → Bool
begins_condition When = true
begins_condition Unless = true
begins_condition kind = false

-- one kind alone
abbrev pub is_semicolon : TokenKind → Bool
is_semicolon Semicolon = true
is_semicolon kind = false

abbrev pub is_at : TokenKind → Bool
is_at At = true
is_at kind = false

abbrev pub is_paren : TokenKind → Bool
is_paren OpenParen = true
is_paren kind = false

abbrev pub is_square : TokenKind → Bool
is_square OpenBracket = true
is_square kind = false

abbrev pub is_brace : TokenKind → Bool
is_brace OpenBrace = true
is_brace kind = false

abbrev pub is_comma : TokenKind → Bool
is_comma Comma = true
is_comma kind = false

abbrev pub is_if : TokenKind → Bool
is_if If = true
is_if kind = false

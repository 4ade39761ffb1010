-- How words stand: one space between two, but none behind `(`, `[`, `.`, `::`, `@`, `!` and a
-- sign, none before `)`, `]`, `,`, `;`, `.` and `::`, none before the `(` of a call or the `[` of
-- an access. Where the two would run together there is a space all the same. Behind a `;` a line
-- ends.
use Rattle.std.specs.Prelude.{ℕ, Bool, true, false, cond, not, ◌&&◌, ◌||◌, ◌==◌, List, [], ◌∷◌, ◌++◌, codes, slice_index}
use Rattle.std.specs.Char.{is_ascii_digit}
use Rattle.std.specs.Str.{byte}
use Rattle.cedar_lexer.specs.Spelling.{is_identifier_part}
use Rattle.cedar_lexer.specs.Words.{TokenText}
use Rattle.cedar_lexer.specs.declared.token.TokenKind.{TokenKind}
use Rattle.cedar_lexer.specs.declared.token.TokenKind.TheVariants.{True, False, Permit, Forbid, When, Unless, Principal, Action, Resource, Context, PrincipalSlot, ResourceSlot, Identifier, Number, StringLit, At, Dot, Comma, Semicolon, Colon, ColonColon, OpenParen, CloseParen, OpenBrace, CloseBrace, OpenBracket, CloseBracket, EqEq, NotEq, Less, LessEq, GreaterEq, Greater, Eq, OrOr, AndAnd, Plus, Minus, Star, Slash, Percent, Bang}

-- ---- which words may touch

-- a token of this kind goes on with this byte, or becomes another one
abbrev pub runs_on_with : TokenKind → ℕ → Bool
runs_on_with Number b = is_ascii_digit b
runs_on_with StringLit b = false
runs_on_with At b = false
runs_on_with Dot b = false
runs_on_with Comma b = false
runs_on_with Semicolon b = false
runs_on_with Colon b = b == byte ":"
runs_on_with ColonColon b = false
runs_on_with OpenParen b = false
runs_on_with CloseParen b = false
runs_on_with OpenBrace b = false
runs_on_with CloseBrace b = false
runs_on_with OpenBracket b = false
runs_on_with CloseBracket b = false
runs_on_with EqEq b = false
runs_on_with NotEq b = false
runs_on_with Less b = b == byte "="
runs_on_with LessEq b = false
runs_on_with GreaterEq b = false
runs_on_with Greater b = b == byte "="
runs_on_with Eq b = b == byte "="
runs_on_with OrOr b = false
runs_on_with AndAnd b = false
runs_on_with Plus b = false
runs_on_with Minus b = false
runs_on_with Star b = false
runs_on_with Slash b = b == byte "/"
runs_on_with Percent b = false
runs_on_with Bang b = b == byte "="
-- a word, a slot or an identifier
runs_on_with kind b = is_identifier_part b

-- ---- which words are joined

-- the words that are identifiers too
abbrev pub is_identifier_kind : TokenKind → Bool
is_identifier_kind Identifier = true
is_identifier_kind Principal = true
is_identifier_kind Action = true
is_identifier_kind Resource = true
is_identifier_kind Context = true
is_identifier_kind Permit = true
is_identifier_kind Forbid = true
is_identifier_kind When = true
is_identifier_kind Unless = true
is_identifier_kind kind = false

-- what an operand ends with: a `-` behind it is no sign, and a `[` an access
abbrev pub closes_operand : TokenKind → Bool
closes_operand True = true
closes_operand False = true
closes_operand PrincipalSlot = true
closes_operand ResourceSlot = true
closes_operand Number = true
closes_operand StringLit = true
closes_operand CloseParen = true
closes_operand CloseBracket = true
closes_operand CloseBrace = true
closes_operand kind = is_identifier_kind kind

-- the two words that stand last
pub record Edge : Type 0 where
  pub before : TokenKind
  pub last : TokenKind

-- an effect's word, which stands apart from its scope
abbrev pub is_effect : TokenKind → Bool
is_effect Permit = true
is_effect Forbid = true
is_effect kind = false

-- behind these a word is a part of a name, or a key
abbrev pub is_within_name : TokenKind → Bool
is_within_name At = true
is_within_name Dot = true
is_within_name ColonColon = true
is_within_name kind = false

-- a `(` behind these words opens arguments, or an annotation's text
abbrev pub is_called : TokenKind → TokenKind → Bool
is_called At last = true
is_called before last = is_identifier_kind last && (not (is_effect last) || is_within_name before)

abbrev pub joins_behind : TokenKind → TokenKind → Bool
joins_behind before OpenParen = true
joins_behind before OpenBracket = true
joins_behind before Dot = true
joins_behind before ColonColon = true
joins_behind before At = true
joins_behind before Bang = true
joins_behind before Minus = not (closes_operand before)
joins_behind before last = false

abbrev pub joins_before : TokenKind → TokenKind → TokenKind → Bool
joins_before before last CloseParen = true
joins_before before last CloseBracket = true
joins_before before last Comma = true
joins_before before last Semicolon = true
joins_before before last Dot = true
joins_before before last ColonColon = true
joins_before before last OpenParen = is_called before last
joins_before before last OpenBracket = closes_operand last
joins_before before last next = false

-- a word of this kind and with this first byte stands straight behind the last one
abbrev pub is_joined : Edge → TokenKind → ℕ → Bool
is_joined e next b =
    (joins_behind e.before e.last || joins_before e.before e.last next)
    && not (runs_on_with e.last b)

-- ---- a line of words

abbrev pub space_behind : TokenKind → List ℕ
space_behind Semicolon = codes "\n"
space_behind last = codes " "

abbrev pub gap : Edge → TokenText → List ℕ
gap e w = cond (is_joined e w.kind (slice_index w.text 0)) [] (space_behind e.last)

abbrev pub edge_behind : Edge → TokenText → Edge
edge_behind e w = record { before = e.last; last = w.kind }

-- behind other words
abbrev pub text_behind : Edge → List TokenText → List ℕ
text_behind e [] = []
text_behind e (w ∷ ws) = gap e w ++ (w.text ++ text_behind (edge_behind e w) ws)

-- a line begins as what stands behind a `(` does
abbrev pub line_start : Edge
line_start = record { before = OpenParen; last = OpenParen }

abbrev pub line_of : List TokenText → List ℕ
line_of ws = text_behind line_start ws

-- lines end with a line feed
abbrev pub ended : List ℕ → List ℕ
ended [] = []
ended (b ∷ bs) = b ∷ bs ++ codes "\n"

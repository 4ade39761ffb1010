-- Spelling: the texts of each of the 50 kinds of token. A text is its bytes in UTF-8.
use Rattle.std.specs.Prelude.{◌≡◌, ◌≢◌, ℕ, Bool, ◌||◌, ◌==◌, IsTrue, List, [], ◌∷◌, ◌++◌, codes, Option, Some, None}
use Rattle.std.specs.List.{AllPass}
use Rattle.std.specs.Char.{IsScalar, encode_utf8, is_ascii_alphabetic, is_ascii_alphanumeric, is_ascii_digit}
use Rattle.std.specs.Str.{byte}
use Rattle.cedar_lexer.specs.declared.token.TokenKind.{TokenKind}
use Rattle.cedar_lexer.specs.declared.token.TokenKind.TheVariants.{True, False, If, Permit, Forbid, When, Unless, In, Has, Like, Is, Then, Else, Principal, Action, Resource, Context, PrincipalSlot, ResourceSlot, OtherSlot, Identifier, Number, StringLit, At, Dot, Comma, Semicolon, Colon, ColonColon, OpenParen, CloseParen, OpenBrace, CloseBrace, OpenBracket, CloseBracket, EqEq, NotEq, Less, LessEq, GreaterEq, Greater, Eq, OrOr, AndAnd, Plus, Minus, Star, Slash, Percent, Bang}

-- what an identifier begins with, a letter or `_`, and what it goes on with, also a digit
abbrev pub is_identifier_start : ℕ → Bool
is_identifier_start b = is_ascii_alphabetic b || b == byte "_"

abbrev pub is_identifier_part : ℕ → Bool
is_identifier_part b = is_ascii_alphanumeric b || b == byte "_"

-- a letter or `_`, and then letters, digits and `_`
abbrev pub IsIdentifierText : List ℕ → Type 0
IsIdentifierText [] = ⊥
IsIdentifierText (b ∷ bs) = IsTrue (is_identifier_start b) × AllPass is_identifier_part bs

-- one digit or more
abbrev pub IsNumber : List ℕ → Type 0
IsNumber [] = ⊥
IsNumber (b ∷ bs) = IsTrue (is_ascii_digit b) × AllPass is_ascii_digit bs

-- what stands behind a string's opening quote: pieces, and the closing quote
pub data IsStringTail : List ℕ → Type 0 where
  closing : IsStringTail (codes "\"")
  -- a character that is neither a quote nor a backslash is a piece
  plain : (c : ℕ) (bs : List ℕ) → IsScalar c → c
      ≢ byte "\"" → c ≢ byte "\\" → IsStringTail bs → IsStringTail (encode_utf8 c ++ bs)
  -- so is a backslash with the one character behind it, whichever that is
  escaped : (c : ℕ) (bs : List ℕ) → IsScalar c → IsStringTail bs
      → IsStringTail (codes "\\" ++ encode_utf8 c ++ bs)

-- a string begins with a quote
abbrev pub IsStringText : List ℕ → Type 0
IsStringText [] = ⊥
IsStringText (b ∷ bs) = (b ≡ byte "\"") × IsStringTail bs

-- a slot is `?` and an identifier
abbrev pub IsSlot : List ℕ → Type 0
IsSlot [] = ⊥
IsSlot (b ∷ bs) = (b ≡ byte "?") × IsIdentifierText bs

-- the one text of a word, of a named slot, of a mark and of an operator; the other four kinds are
-- classes of texts
abbrev pub one_text : TokenKind → Option (List ℕ)
one_text True = Some (codes "true")
one_text False = Some (codes "false")
one_text If = Some (codes "if")
one_text Permit = Some (codes "permit")
one_text Forbid = Some (codes "forbid")
one_text When = Some (codes "when")
one_text Unless = Some (codes "unless")
one_text In = Some (codes "in")
one_text Has = Some (codes "has")
one_text Like = Some (codes "like")
one_text Is = Some (codes "is")
one_text Then = Some (codes "then")
one_text Else = Some (codes "else")
one_text Principal = Some (codes "principal")
one_text Action = Some (codes "action")
one_text Resource = Some (codes "resource")
one_text Context = Some (codes "context")
one_text PrincipalSlot = Some (codes "?principal")
one_text ResourceSlot = Some (codes "?resource")
one_text OtherSlot = None
one_text Identifier = None
one_text Number = None
one_text StringLit = None
one_text At = Some (codes "@")
one_text Dot = Some (codes ".")
one_text Comma = Some (codes ",")
one_text Semicolon = Some (codes ";")
one_text Colon = Some (codes ":")
one_text ColonColon = Some (codes "::")
one_text OpenParen = Some (codes "(")
one_text CloseParen = Some (codes ")")
one_text OpenBrace = Some (codes "{")
one_text CloseBrace = Some (codes "}")
one_text OpenBracket = Some (codes "[")
one_text CloseBracket = Some (codes "]")
one_text EqEq = Some (codes "==")
one_text NotEq = Some (codes "!=")
one_text Less = Some (codes "<")
one_text LessEq = Some (codes "<=")
one_text GreaterEq = Some (codes ">=")
one_text Greater = Some (codes ">")
one_text Eq = Some (codes "=")
one_text OrOr = Some (codes "||")
one_text AndAnd = Some (codes "&&")
one_text Plus = Some (codes "+")
one_text Minus = Some (codes "-")
one_text Star = Some (codes "*")
one_text Slash = Some (codes "/")
one_text Percent = Some (codes "%")
one_text Bang = Some (codes "!")

-- some kind has just this text
abbrev pub HasOwnKind : List ℕ → Type 0
HasOwnKind text = (kind : TokenKind) × (one_text kind ≡ Some text)

-- the spellings of a kind: a word of the language is no Identifier, and neither `?principal` nor
-- `?resource` is an OtherSlot
abbrev pub Spells : TokenKind → List ℕ → Type 0
Spells Identifier text = IsIdentifierText text × ¬ (HasOwnKind text)
Spells OtherSlot text = IsSlot text × ¬ (HasOwnKind text)
Spells Number text = IsNumber text
Spells StringLit text = IsStringText text
Spells kind text = one_text kind ≡ Some text

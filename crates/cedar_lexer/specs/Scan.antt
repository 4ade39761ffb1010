-- How the lexer finds the spelling at the front of a text, in one pass. Only private contracts
-- name it: `Cut` says what it has to find.
use Rattle.std.specs.Prelude.{◌≡◌, ℕ, ◌+◌, ◌<◌, ◌≤◌, Bool, true, false, cond, ◌==◌, List, [], ◌∷◌, ◌++◌, length, take, drop, slice_index, Option, Some, None}
use Rattle.std.specs.List.{prefix_len}
use Rattle.std.specs.Char.{is_ascii_digit}
use Rattle.std.specs.Str.{byte, bytes_eq}
use Rattle.cedar_lexer.specs.declared.token.TokenKind.{TokenKind}
use Rattle.cedar_lexer.specs.declared.token.TokenKind.TheVariants.{True, False, If, Permit, Forbid, When, Unless, In, Has, Like, Is, Then, Else, Principal, Action, Resource, Context, PrincipalSlot, ResourceSlot, OtherSlot, Identifier, Number, StringLit, At, Dot, Comma, Semicolon, Colon, ColonColon, OpenParen, CloseParen, OpenBrace, CloseBrace, OpenBracket, CloseBracket, EqEq, NotEq, Less, LessEq, GreaterEq, Greater, Eq, OrOr, AndAnd, Plus, Minus, Star, Slash, Percent, Bang}
use Rattle.cedar_lexer.specs.Spelling.{is_identifier_start, is_identifier_part, one_text}
use Rattle.cedar_lexer.specs.Cut.{IsSkip, IsSpelled}

-- a kind, and how many bytes its spelling has
abbrev pub KindAndLength : Type 0
KindAndLength = TokenKind × ℕ

abbrev pub one_byte_long : TokenKind → Option KindAndLength
one_byte_long kind = Some (kind, 1)

abbrev pub two_bytes_long : TokenKind → Option KindAndLength
two_bytes_long kind = Some (kind, 2)

-- the text is the one text of the kind
abbrev pub is_given_text : Option (List ℕ) → List ℕ → Bool
is_given_text None text = false
is_given_text (Some given) text = bytes_eq text given

-- the first of these kinds whose one text this is, or `other`
abbrev pub kind_with_text : List TokenKind → List ℕ → TokenKind → TokenKind
kind_with_text [] text other = other
kind_with_text (kind ∷ kinds) text other =
    cond (is_given_text (one_text kind) text) kind (kind_with_text kinds text other)

abbrev pub words : List TokenKind
words = True ∷ False ∷ If ∷ Permit ∷ Forbid ∷ When ∷ Unless ∷ In ∷ Has ∷ Like ∷ Is ∷ Then ∷ Else ∷
    Principal ∷ Action ∷ Resource ∷ Context ∷ []

abbrev pub slots : List TokenKind
slots = PrincipalSlot ∷ ResourceSlot ∷ []

-- a word or an identifier, and a number, whose first byte has been seen
abbrev pub word : List ℕ → Option KindAndLength
word text =
    let n = prefix_len is_identifier_part text in
    Some (kind_with_text words (take n text) Identifier, n)

abbrev pub number : List ℕ → Option KindAndLength
number text = Some (Number, prefix_len is_ascii_digit text)

-- a slot, whose first byte is `?`
abbrev pub slot : List ℕ → Option KindAndLength
slot text = cond (is_identifier_start (slice_index text 1))
    (let n = 1 + prefix_len is_identifier_part (drop 1 text) in
    Some (kind_with_text slots (take n text) OtherSlot, n))
    None

-- how many bytes a string has through its closing quote, where n of them are read, the last a
-- backslash that takes the next byte with it, or not
abbrev pub string_len : Bool → List ℕ → ℕ → Option ℕ
string_len escaped [] n = None
string_len true (b ∷ bs) n = string_len false bs (n + 1)
string_len false (b ∷ bs) n =
    cond (b == byte "\"") (Some (n + 1)) (string_len (b == byte "\\") bs (n + 1))

abbrev pub string_of : Option ℕ → Option KindAndLength
string_of None = None
string_of (Some n) = Some (StringLit, n)

-- a mark or an operator, by its first byte and the one behind it
abbrev pub mark : ℕ → ℕ → Option KindAndLength
mark b c =
    cond (b == byte "@") (one_byte_long At) (
    cond (b == byte ".") (one_byte_long Dot) (
    cond (b == byte ",") (one_byte_long Comma) (
    cond (b == byte ";") (one_byte_long Semicolon) (
    cond (b == byte "(") (one_byte_long OpenParen) (
    cond (b == byte ")") (one_byte_long CloseParen) (
    cond (b == byte "{") (one_byte_long OpenBrace) (
    cond (b == byte "}") (one_byte_long CloseBrace) (
    cond (b == byte "[") (one_byte_long OpenBracket) (
    cond (b == byte "]") (one_byte_long CloseBracket) (
    cond (b == byte "+") (one_byte_long Plus) (
    cond (b == byte "-") (one_byte_long Minus) (
    cond (b == byte "*") (one_byte_long Star) (
    cond (b == byte "%") (one_byte_long Percent) (
    cond (b == byte ":") (cond (c == byte ":") (two_bytes_long ColonColon) (one_byte_long Colon)) (
    cond (b == byte "=") (cond (c == byte "=") (two_bytes_long EqEq) (one_byte_long Eq)) (
    cond (b == byte "!") (cond (c == byte "=") (two_bytes_long NotEq) (one_byte_long Bang)) (
    cond (b == byte "<") (cond (c == byte "=") (two_bytes_long LessEq) (one_byte_long Less)) (
    cond (b == byte ">") (cond (c == byte "=") (two_bytes_long GreaterEq)
    (one_byte_long Greater)) (
    cond (b == byte "|") (cond (c == byte "|") (two_bytes_long OrOr) None) (
    cond (b == byte "&") (cond (c == byte "&") (two_bytes_long AndAnd) None) (
    cond (b == byte "/") (cond (c == byte "/") None (one_byte_long Slash)) (
    None))))))))))))))))))))))

-- the spelling at the front of the text
abbrev pub spelling : List ℕ → Option KindAndLength
spelling [] = None
spelling (b ∷ bs) =
    cond (is_identifier_start b) (word (b ∷ bs)) (
    cond (is_ascii_digit b) (number (b ∷ bs)) (
    cond (b == byte "?") (slot (b ∷ bs)) (
    cond (b == byte "\"") (string_of (string_len false bs 1)) (
    mark b (slice_index bs 0)))))

-- no skip, and no spelling, starts this text
abbrev pub NoSkip : List ℕ → Type 0
NoSkip text = (front after : List ℕ) → text ≡ front ++ after → ¬ (IsSkip front after)

abbrev pub NoSpelling : List ℕ → Type 0
NoSpelling text = (kind : TokenKind) (front after : List ℕ) → text ≡ front ++ after
    → ¬ (IsSpelled kind front after)

-- the skip that starts the text has n bytes, or none starts it and n is 0
pub record IsSkipLen (text : List ℕ) (n : ℕ) : Type 0 where
  pub within : n ≤ length text
  pub some : 0 < n → IsSkip (take n text) (drop n text)
  pub none : n ≡ 0 → NoSkip text

-- Piece: what the raw text of a string, the characters between its quotes, stands for. It is laid
-- out of short pieces, each of which stands for nothing, for one character, or is no escape. A
-- text of pieces is a list of characters here.
use Rattle.std.specs.Prelude.{◌≡◌, ◌≢◌, ℕ, ◌+◌, ◌*◌, ◌<◌, ◌≤◌, Bool, true, false, ◌||◌, ◌==◌, not, List, [], ◌∷◌, ◌++◌, codes, length, fold, filter, Option, Some, None, if◌then◌else◌}
use Rattle.std.specs.List.{list_all, flat_map}
use Rattle.std.specs.Char.{IsScalar, is_digit, digit_value, encode_utf8}
use Rattle.std.specs.Str.{chars, byte, encode_utf8_all}
use Rattle.cedar_syntax.specs.declared.err.escape.EscapeError.{EscapeError}
use Rattle.cedar_syntax.specs.declared.err.escape.EscapeError.TheVariants.{LoneSlash, InvalidEscape, BareCarriageReturn, EscapeOnlyChar, TooShortHexEscape, InvalidCharInHexEscape, OutOfRangeHexEscape, NoBraceInUnicodeEscape, InvalidCharInUnicodeEscape, EmptyUnicodeEscape, UnclosedUnicodeEscape, LeadingUnderscoreUnicodeEscape, OverlongUnicodeEscape, LoneSurrogateUnicodeEscape, OutOfRangeUnicodeEscape}
use Rattle.cedar_syntax.specs.declared.err.escape.UnescapeError.{UnescapeError}
use Rattle.cedar_syntax.specs.declared.unescape.piece.PieceValue.{PieceValue}
use Rattle.cedar_syntax.specs.declared.unescape.piece.PieceValue.TheVariants.{Nothing, Character, Fault}

-- the characters that a backslash and one character stand for: quotes and the backslash for
-- themselves, four letters and a digit for controls
abbrev pub short_escape : ℕ → Option ℕ
short_escape c =
    if c == byte "\"" || c == byte "\\" || c == byte "'" then Some c
    else (if c == byte "n" then Some 10
    else (if c == byte "r" then Some 13
    else (if c == byte "t" then Some 9
    else (if c == byte "0" then Some 0
    else None))))

-- a space, a tab, a line feed or a carriage return, which a backslash before a line feed skips
abbrev pub is_blank : ℕ → Bool
is_blank c = c == 32 || c == 9 || c == 10 || c == 13

-- the text ends here, or goes on with a character that is no blank
abbrev pub EndsBlanks : List ℕ → Type 0
EndsBlanks [] = Unit {0}
EndsBlanks (c ∷ after) = is_blank c ≡ false

abbrev pub is_hex : ℕ → Bool
is_hex c = is_digit c 16

-- the digits between the braces, and the number that they write; underscores between them mean
-- nothing
abbrev pub is_no_underscore : ℕ → Bool
is_no_underscore c = not (c == byte "_")

abbrev pub digits : List ℕ → List ℕ
digits inside = filter is_no_underscore inside

abbrev pub hex_number : List ℕ → ℕ
hex_number ds = fold (λ n d. n * 16 + digit_value d) 0 ds

abbrev pub is_hex_or_underscore : ℕ → Bool
is_hex_or_underscore c = is_hex c || c == byte "_"

-- nothing yet, or a hex digit and then hex digits and underscores
abbrev pub BeginsNumber : List ℕ → Type 0
BeginsNumber [] = Unit {0}
BeginsNumber (d ∷ inside) = (is_hex d ≡ true) × (list_all is_hex_or_underscore inside ≡ true)

-- a piece, what stands behind it, and what it stands for. What stands behind matters in two ways:
-- some pieces are cut short by the end of the text, and the blanks behind a line feed are all
-- skipped.
pub data Piece : List ℕ → List ℕ → PieceValue → Type 0 where
  -- a character stands for itself, but a double quote, a backslash and a carriage return
  plain : {after : List ℕ} (c : ℕ) → c ≢ byte "\"" → c ≢ byte "\\" → c ≢ 13 →
      Piece (c ∷ []) after (Character c)
  bare_quote : {after : List ℕ} → Piece (codes "\"") after (Fault EscapeOnlyChar)
  bare_return : {after : List ℕ} → Piece (13 ∷ []) after (Fault BareCarriageReturn)
  -- a backslash and nothing
  lone_slash : Piece (codes "\\") [] (Fault LoneSlash)
  -- a backslash and a character that stands for one with it
  short : {after : List ℕ} (c meant : ℕ) → short_escape c ≡ Some meant →
      Piece (codes "\\" ++ c ∷ []) after (Character meant)
  -- a backslash and a line feed stand for nothing, and so do all the blanks behind them
  line_end : {after : List ℕ} (blanks : List ℕ) → list_all is_blank blanks ≡ true →
      EndsBlanks after → Piece (codes "\\" ++ 10 ∷ blanks) after Nothing
  -- `\x` and two hex digits
  hex : {after : List ℕ} (a b : ℕ) → is_hex a ≡ true → is_hex b ≡ true →
      digit_value a * 16 + digit_value b ≤ 0x7F →
      Piece (codes "\\x" ++ a ∷ b ∷ []) after (Character (digit_value a * 16 + digit_value b))
  large_hex : {after : List ℕ} (a b : ℕ) → is_hex a ≡ true → is_hex b ≡ true →
      0x7F < digit_value a * 16 + digit_value b →
      Piece (codes "\\x" ++ a ∷ b ∷ []) after (Fault OutOfRangeHexEscape)
  -- `\x`, one hex digit at most, and then the end, or a character that is none
  short_hex : (ds : List ℕ) → list_all is_hex ds ≡ true → length ds ≤ 1 →
      Piece (codes "\\x" ++ ds) [] (Fault TooShortHexEscape)
  bad_hex : {after : List ℕ} (ds : List ℕ) (c : ℕ) → list_all is_hex ds ≡ true → length ds ≤ 1 →
      is_hex c ≡ false → Piece (codes "\\x" ++ (ds ++ c ∷ [])) after (Fault InvalidCharInHexEscape)
  -- `\u` and the end, or a character that is no brace
  no_brace_but_end : Piece (codes "\\u") [] (Fault NoBraceInUnicodeEscape)
  no_brace : {after : List ℕ} (c : ℕ) → c ≢ byte "{" →
      Piece (codes "\\u" ++ c ∷ []) after (Fault NoBraceInUnicodeEscape)
  -- `\u{` and a character that begins no number
  empty_braces : {after : List ℕ} → Piece (codes "\\u{}") after (Fault EmptyUnicodeEscape)
  leading_underscore : {after : List ℕ} →
      Piece (codes "\\u{_") after (Fault LeadingUnderscoreUnicodeEscape)
  -- `\u{`, maybe digits and underscores, and then the end, or a character that has no place there
  unclosed : (inside : List ℕ) → BeginsNumber inside →
      Piece (codes "\\u{" ++ inside) [] (Fault UnclosedUnicodeEscape)
  bad_inside : {after : List ℕ} (inside : List ℕ) (c : ℕ) → BeginsNumber inside →
      is_hex_or_underscore c ≡ false → c ≢ byte "}" →
      Piece (codes "\\u{" ++ (inside ++ c ∷ [])) after (Fault InvalidCharInUnicodeEscape)
  -- `\u{`, a number and `}`: one to six digits that write the code of a character
  unicode : {after : List ℕ} (inside : List ℕ) → BeginsNumber inside →
      0 < length (digits inside) → length (digits inside) ≤ 6 →
      IsScalar (hex_number (digits inside)) →
      Piece (codes "\\u{" ++ (inside ++ codes "}")) after (Character (hex_number (digits inside)))
  overlong : {after : List ℕ} (inside : List ℕ) → BeginsNumber inside →
      6 < length (digits inside) →
      Piece (codes "\\u{" ++ (inside ++ codes "}")) after (Fault OverlongUnicodeEscape)
  out_of_range : {after : List ℕ} (inside : List ℕ) → BeginsNumber inside →
      length (digits inside) ≤ 6 → 0x10FFFF < hex_number (digits inside) →
      Piece (codes "\\u{" ++ (inside ++ codes "}")) after (Fault OutOfRangeUnicodeEscape)
  lone_surrogate : {after : List ℕ} (inside : List ℕ) → BeginsNumber inside →
      length (digits inside) ≤ 6 → 0xD800 ≤ hex_number (digits inside) →
      hex_number (digits inside) ≤ 0xDFFF →
      Piece (codes "\\u{" ++ (inside ++ codes "}")) after (Fault LoneSurrogateUnicodeEscape)
  -- a backslash and any other character
  invalid : {after : List ℕ} (c : ℕ) → short_escape c ≡ None → c ≢ 10 → c ≢ byte "x" →
      c ≢ byte "u" → Piece (codes "\\" ++ c ∷ []) after (Fault InvalidEscape)

-- a piece with its place: its characters, what it stands for, and the bytes of the raw text that
-- it takes
pub record Placed : Type 0 where
  pub text : List ℕ
  pub outcome : PieceValue
  pub start : ℕ
  pub end : ℕ

-- how many bytes characters take
abbrev pub bytes_len : List ℕ → ℕ
bytes_len cs = length (encode_utf8_all cs)

abbrev pub piece_at : ℕ → List ℕ → PieceValue → Placed
piece_at start text outcome =
    record { text = text; outcome = outcome; start = start; end = start + bytes_len text }

-- the characters from byte `start` of a raw text on are laid out of these pieces
pub data PieceLayout : ℕ → List ℕ → List Placed → Type 0 where
  end_of_text : {start : ℕ} → PieceLayout start [] []
  piece : {start : ℕ} {cs : List ℕ} {ps : List Placed} (text after : List ℕ) (outcome : PieceValue)
      → cs ≡ text ++ after → Piece text after outcome →
      PieceLayout (start + bytes_len text) after ps →
      PieceLayout start cs (piece_at start text outcome ∷ ps)

-- a raw text, as bytes, is laid out of these pieces
abbrev pub IsLaidOut : List ℕ → List Placed → Type 0
IsLaidOut raw ps = PieceLayout 0 (chars raw) ps

-- the bytes of the character that a piece stands for
abbrev pub unescaped_piece : PieceValue → List ℕ
unescaped_piece Nothing = []
unescaped_piece (Character c) = encode_utf8 c
unescaped_piece (Fault kind) = []

-- a fault of this kind at the bytes of a piece, with the whole raw text
abbrev pub fault_at : List ℕ → Placed → EscapeError → UnescapeError
fault_at raw p kind =
    record { kind = kind; input = raw; range = record { start = p.start; end = p.end } }

-- the fault that a piece is
abbrev pub piece_value_faults : List ℕ → Placed → PieceValue → List UnescapeError
piece_value_faults raw p Nothing = []
piece_value_faults raw p (Character c) = []
piece_value_faults raw p (Fault kind) = fault_at raw p kind ∷ []

abbrev pub unescaped_pieces : List Placed → List ℕ
unescaped_pieces ps = flat_map (λ p. unescaped_piece p.outcome) ps

abbrev pub piece_faults : List ℕ → List Placed → List UnescapeError
piece_faults raw ps = flat_map (λ p. piece_value_faults raw p p.outcome) ps

-- the unescaped text of a raw text: the characters of its pieces, none of which is a fault
pub record IsUnescaped (raw text : List ℕ) : Type 0 where
  pub pieces : List Placed
  pub laid_out : IsLaidOut raw pieces
  pub faultless : piece_faults raw pieces ≡ []
  pub unescaped : unescaped_pieces pieces ≡ text

-- the escape faults of a raw text: those of its pieces, in order
pub record HasEscapeFaults (raw : List ℕ) (faults : List UnescapeError) : Type 0 where
  pub pieces : List Placed
  pub laid_out : IsLaidOut raw pieces
  pub told : piece_faults raw pieces ≡ faults

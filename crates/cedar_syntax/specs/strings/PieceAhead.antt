-- The first piece of a text, found from the left, character by character. Contracts of private
-- functions speak of it, and `layout` of `cedar_conversion`; that it is the one piece with which
-- the text begins is proved.
use Rattle.std.specs.Prelude.{◌≡◌, ℕ, ◌+◌, ◌*◌, Bool, false, ◌&&◌, ◌==◌, min, nat_lt, List, [], ◌∷◌, ◌++◌, Option, Some, None, if◌then◌else◌}
use lib.Utf8.{scalar}
use Rattle.std.specs.Char.{digit_value}
use Rattle.std.specs.Str.{byte, chars}
use Rattle.cedar_syntax.specs.declared.err.escape.EscapeError.{EscapeError}
use Rattle.cedar_syntax.specs.declared.err.escape.EscapeError.TheVariants.{LoneSlash, InvalidEscape, BareCarriageReturn, EscapeOnlyChar, TooShortHexEscape, InvalidCharInHexEscape, OutOfRangeHexEscape, NoBraceInUnicodeEscape, InvalidCharInUnicodeEscape, EmptyUnicodeEscape, UnclosedUnicodeEscape, LeadingUnderscoreUnicodeEscape, OverlongUnicodeEscape, LoneSurrogateUnicodeEscape, OutOfRangeUnicodeEscape}
use Rattle.cedar_syntax.specs.declared.unescape.piece.PieceValue.{PieceValue}
use Rattle.cedar_syntax.specs.declared.unescape.piece.PieceValue.TheVariants.{Nothing, Character, Fault}
use Rattle.cedar_syntax.specs.declared.unescape.piece.Step.{Step}
use Rattle.cedar_syntax.specs.declared.unescape.digits.Digits.{Digits}
use Rattle.cedar_syntax.specs.strings.Piece.{Piece, short_escape, is_blank, is_hex}

-- what the first piece stands for, and what stands behind it
pub record PieceAhead : Type 0 where
  pub outcome : PieceValue
  pub rest : List ℕ

abbrev pub piece_ahead : PieceValue → List ℕ → PieceAhead
piece_ahead outcome rest = record { outcome = outcome; rest = rest }

abbrev pub faulty : EscapeError → List ℕ → PieceAhead
faulty kind rest = piece_ahead (Fault kind) rest

abbrev pub piece_ahead_of : Step → PieceAhead
piece_ahead_of step = piece_ahead step.outcome (chars step.rest.now)

-- the first character and the others
abbrev pub first_of : List ℕ → Option (ℕ × List ℕ)
first_of [] = None
first_of (c ∷ cs) = Some (c, cs)

abbrev pub hex_digit : ℕ → Option ℕ
hex_digit c = if is_hex c then Some (digit_value c) else None

-- behind a backslash and a line feed
abbrev pub unskipped_text : List ℕ → List ℕ
unskipped_text [] = []
unskipped_text (c ∷ cs) = if is_blank c then unskipped_text cs else (c ∷ cs)

-- behind `\x`
abbrev pub ascii : ℕ → List ℕ → PieceAhead
ascii code cs =
    if nat_lt 0x7F code then faulty OutOfRangeHexEscape cs else piece_ahead (Character code) cs

abbrev pub low_digit : ℕ → List ℕ → Option ℕ → PieceAhead
low_digit high cs None = faulty InvalidCharInHexEscape cs
low_digit high cs (Some low) = ascii (high * 16 + low) cs

abbrev pub behind_high : ℕ → Option (ℕ × List ℕ) → PieceAhead
behind_high high None = faulty TooShortHexEscape []
behind_high high (Some q) = low_digit high q.1 (hex_digit q.0)

abbrev pub high_digit : List ℕ → Option ℕ → PieceAhead
high_digit cs None = faulty InvalidCharInHexEscape cs
high_digit cs (Some high) = behind_high high (first_of cs)

abbrev pub hex_escape : Option (ℕ × List ℕ) → PieceAhead
hex_escape None = faulty TooShortHexEscape []
hex_escape (Some p) = high_digit p.1 (hex_digit p.0)

-- the digits between braces so far: how many, seven standing for more, and their number, 110000
-- standing for more
pub record Tally : Type 0 where
  pub count : ℕ
  pub number : ℕ

abbrev pub tally_of : Digits → Tally
tally_of ds = record { count = ds.count; number = ds.number }

abbrev pub tally : ℕ → ℕ → Tally
tally count number = record { count = min count 7; number = min number 0x11_0000 }

abbrev pub with_digit : Tally → ℕ → Tally
with_digit t d = tally (t.count + 1) (t.number * 16 + d)

-- at `}`
abbrev pub scalar_outcome : ℕ → Option ℕ → PieceValue
scalar_outcome number (Some c) = Character c
scalar_outcome number None =
    if nat_lt 0x10FFFF number then Fault OutOfRangeUnicodeEscape else Fault
    LoneSurrogateUnicodeEscape

abbrev pub as_char : ℕ → Option ℕ
as_char number = if scalar number then Some number else None

abbrev pub brace_outcome : Tally → PieceValue
brace_outcome t = if nat_lt 6 t.count then Fault OverlongUnicodeEscape else scalar_outcome t.number
    (as_char t.number)

abbrev pub inside_braces : Tally → List ℕ → PieceAhead
inside_braces t [] = faulty UnclosedUnicodeEscape []
inside_braces t (c ∷ cs) =
    if c == byte "_" then inside_braces t cs
    else (if c == byte "}" then piece_ahead (brace_outcome t) cs
    else (if is_hex c then inside_braces (with_digit t (digit_value c)) cs
    else faulty InvalidCharInUnicodeEscape cs))

-- behind `\u{`
abbrev pub first_digit : List ℕ → Option ℕ → PieceAhead
first_digit cs None = faulty InvalidCharInUnicodeEscape cs
first_digit cs (Some d) = inside_braces (tally 1 d) cs

abbrev pub behind_brace : Option (ℕ × List ℕ) → PieceAhead
behind_brace None = faulty UnclosedUnicodeEscape []
behind_brace (Some p) =
    if p.0 == byte "_" then faulty LeadingUnderscoreUnicodeEscape p.1
    else (if p.0 == byte "}" then faulty EmptyUnicodeEscape p.1
    else first_digit p.1 (hex_digit p.0))

-- behind `\u`
abbrev pub unicode_escape : Option (ℕ × List ℕ) → PieceAhead
unicode_escape None = faulty NoBraceInUnicodeEscape []
unicode_escape (Some p) = if p.0 == byte "{" then behind_brace
    (first_of p.1) else faulty NoBraceInUnicodeEscape p.1

-- behind a backslash
abbrev pub short_outcome : Option ℕ → PieceValue
short_outcome None = Fault InvalidEscape
short_outcome (Some c) = Character c

abbrev pub escape : Option (ℕ × List ℕ) → PieceAhead
escape None = faulty LoneSlash []
escape (Some p) =
    if p.0 == byte "x" then hex_escape (first_of p.1)
    else (if p.0 == byte "u" then unicode_escape (first_of p.1)
    else (if p.0 == 10 then piece_ahead Nothing (unskipped_text p.1)
    else piece_ahead (short_outcome (short_escape p.0)) p.1))

-- a piece that begins with this character
abbrev pub first_piece : ℕ → List ℕ → PieceAhead
first_piece c cs =
    if c == byte "\\" then escape (first_of cs)
    else (if c == byte "\"" then faulty EscapeOnlyChar cs
    else (if c == 13 then faulty BareCarriageReturn cs
    else piece_ahead (Character c) cs))

-- a text begins with the piece that was read
pub record BeginsWithPiece (whole : List ℕ) (r : PieceAhead) : Type 0 where
  pub text : List ℕ
  pub stands : whole ≡ text ++ r.rest
  pub is_piece : Piece text r.rest r.outcome

-- the text begins with the piece `\*`
abbrev pub begins_escaped_star : ℕ → Option (ℕ × List ℕ) → Bool
begins_escaped_star c None = false
begins_escaped_star c (Some p) = c == byte "\\" && p.0 == byte "*"

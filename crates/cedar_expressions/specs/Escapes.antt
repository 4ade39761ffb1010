-- How a text and a pattern are written between quotes, so that what is read there is that text or
-- that pattern, on one line, with no character that a screen acts on. A text of characters is a
-- list of their codes here.
use Rattle.std.specs.Prelude.{ℕ, ◌/◌, ◌%◌, Bool, ◌||◌, ◌&&◌, ◌==◌, nat_lt, nat_le, List, [], ◌∷◌, ◌++◌, codes, if◌then◌else◌}
use Rattle.std.specs.List.{flat_map}
use Rattle.std.specs.Char.{digit_char}
use Rattle.std.specs.Str.{chars, byte, encode_utf8_all}
use Rattle.cedar_expressions.specs.declared.atoms.PatternElem.{PatternElem}
use Rattle.cedar_expressions.specs.declared.atoms.PatternElem.TheVariants.{Char, Wildcard}

-- what a screen acts on or doesn't show: controls, line ends, marks of direction and of no width
abbrev pub is_hidden : ℕ → Bool
is_hidden c =
    nat_lt c 32 || (nat_le 127 c && nat_lt c 160) || c == 0xAD || c == 0x61C
    || (nat_le 0x200B c && nat_lt c 0x2010) || (nat_le 0x2028 c && nat_lt c 0x202F)
    || (nat_le 0x2060 c && nat_lt c 0x2070) || c == 0xFEFF

-- `\u{` and four hex digits
abbrev pub hex_digits : ℕ → List ℕ
hex_digits c =
    digit_char (c / 16 / 16 / 16) ∷ digit_char (c / 16 / 16 % 16) ∷ digit_char (c / 16 % 16)
    ∷ digit_char (c % 16) ∷ []

abbrev pub code_escape : ℕ → List ℕ
code_escape c = codes "\\u{" ++ (hex_digits c ++ codes "}")

-- a character as it is written in a string
abbrev pub escaped_scalar : ℕ → List ℕ
escaped_scalar c =
    if c == byte "\"" then codes "\\\"" else (if c == byte "\\" then codes "\\\\" else
    (if c == 10 then codes "\\n" else (if c == 13 then codes "\\r" else
    (if c == 9 then codes "\\t" else (if c == 0 then codes "\\0" else
    (if nat_lt c 0x1_0000 && is_hidden c then code_escape c else c ∷ []))))))

-- a part of a pattern: a star that is no wildcard has a backslash
abbrev pub escaped_elem : PatternElem → List ℕ
escaped_elem (Char c) = if c == byte "*" then codes "\\*" else escaped_scalar c
escaped_elem Wildcard = codes "*"

abbrev pub escaped_chars : List ℕ → List ℕ
escaped_chars cs = flat_map escaped_scalar cs

abbrev pub escaped_elems : List PatternElem → List ℕ
escaped_elems ps = flat_map escaped_elem ps

-- the raw text of a string, and of a pattern, as bytes
abbrev pub escaped_text : List ℕ → List ℕ
escaped_text text = encode_utf8_all (escaped_chars (chars text))

abbrev pub escaped_pattern : List PatternElem → List ℕ
escaped_pattern ps = encode_utf8_all (escaped_elems ps)

-- between quotes
abbrev pub quoted : List ℕ → List ℕ
quoted raw = codes "\"" ++ (raw ++ codes "\"")

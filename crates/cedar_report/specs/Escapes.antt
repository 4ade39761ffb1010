-- A text in one line: what a line end would break, and what would hide, is written by an escape.
use Rattle.std.specs.Prelude.{ℕ, List, ◌++◌, ◌==◌, ◌||◌, Bool, false, codes, Option, Some, None, flat_map, if◌then◌else◌, nat_lt}
use Rattle.std.specs.Str.{chars}
use Rattle.std.specs.Char.{encode_utf8}
use Rattle.std.specs.Fmt.{radix_digits}
use Rattle.unicode_width.specs.Width.{char_width}

abbrev pub has_columns : Option ℕ → Bool
has_columns (Some width) = nat_lt 0 width
has_columns None = false

-- the separators of lines and of paragraphs, which take a column and end a line
abbrev pub is_separator : ℕ → Bool
is_separator c = (c == 8232) || (c == 8233)

-- a character that takes columns of its own in a terminal and ends no line: no control, no mark of
-- direction
abbrev pub shows_itself : ℕ → Bool
shows_itself c = if is_separator c then false else has_columns (char_width false c)

-- line feed, return and tab by their letters, what else doesn't show itself by its number
abbrev pub escaped_char : ℕ → List ℕ
escaped_char c = if c == 10 then codes "\\n" else (if c == 13 then codes "\\r" else
    (if c == 9 then codes "\\t" else (if shows_itself c then encode_utf8 c else
    codes "\\u{" ++ radix_digits 16 false c ++ codes "}")))

abbrev pub escaped : List ℕ → List ℕ
escaped text = flat_map escaped_char (chars text)

-- Where an offset of a text stands for people: the rule of editors, by which a line ends with its
-- line feed and a column counts characters, both from 1.
use Rattle.std.specs.Prelude.{ℕ, List, [], ◌∷◌, ◌++◌, ◌+◌, Bool, ◌==◌, ◌||◌, nat_lt, nat_le, if◌then◌else◌, take}
use Rattle.std.specs.List.{fold, count_by}
use Rattle.cedar_syntax.specs.declared.position.Position.{Position}

-- the byte that ends a line
abbrev pub is_line_feed : ℕ → Bool
is_line_feed byte = byte == 10

-- a byte with which a character begins: in UTF-8 the bytes 128 to 191 go on with one
abbrev pub begins_character : ℕ → Bool
begins_character byte = nat_lt byte 128 || nat_le 192 byte

-- a line and one byte more: behind a line feed another line begins
abbrev pub line_with : List ℕ → ℕ → List ℕ
line_with line byte = if is_line_feed byte then [] else line ++ byte ∷ []

-- what stands behind the last line feed
abbrev pub last_line : List ℕ → List ℕ
last_line bytes = fold line_with [] bytes

-- behind these bytes: one more than the line feeds among them
abbrev pub line_behind : List ℕ → ℕ
line_behind bytes = count_by is_line_feed bytes + 1

-- behind these bytes: one more than the characters that begin behind their last line feed
abbrev pub column_behind : List ℕ → ℕ
column_behind bytes = count_by begins_character (last_line bytes) + 1

-- where people see the place behind these bytes
abbrev pub position_behind : List ℕ → Position
position_behind bytes = record { line = line_behind bytes; column = column_behind bytes }

-- where people see an offset of a text: behind the bytes before it, which are all of them where it
-- lies behind the text
abbrev pub position_of : List ℕ → ℕ → Position
position_of text offset = position_behind (take offset text)

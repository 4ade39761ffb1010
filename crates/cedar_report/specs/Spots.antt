-- Where people and editors see a byte of a text: the line and the column of `Position`, and the
-- column in UTF-16 units, as the protocol between editors and language servers counts.
use Rattle.std.specs.Prelude.{◌≡◌, ◌≢◌, ◌≤◌, ◌⊎◌, ℕ, List, [], ◌∷◌, ◌++◌, Option, Some, None, ◌+◌, ◌*◌, ◌==◌, nat_le, if◌then◌else◌, take, length}
use Rattle.std.specs.List.{sum_by, slice_split}
use Rattle.cedar_syntax.specs.places.Position.{begins_character, last_line, line_behind, column_behind}
use Rattle.cedar_report.specs.declared.lines.Spot.{Spot}
use Rattle.cedar_report.specs.declared.lines.Station.{Station}

-- the UTF-16 units of the character that begins with a byte: two from U+10000 on, whose UTF-8 has
-- four bytes, the first of them 240 or more; none where no character begins
abbrev pub utf16_units : ℕ → ℕ
utf16_units byte = if nat_le 240 byte then 2 else (if begins_character byte then 1 else 0)

-- behind these bytes: one more than the units behind their last line feed
abbrev pub utf16_behind : List ℕ → ℕ
utf16_behind bytes = sum_by utf16_units (last_line bytes) + 1

-- where people and editors see the place behind these bytes
abbrev pub spot_behind : List ℕ → Spot
spot_behind bytes =
    record { line = line_behind bytes; column = column_behind bytes; utf16 = utf16_behind bytes }

-- where they see a byte of a text; its end, where the byte lies behind it
abbrev pub spot_of : List ℕ → ℕ → Spot
spot_of text offset = spot_behind (take offset text)

-- the lines of a text, without the line feeds that part them
abbrev pub lines_of : List ℕ → List (List ℕ)
lines_of text = slice_split (λ byte. byte == 10) text

-- a line as people are shown it, without the return that may end it
abbrev pub IsShownFor : List ℕ → List ℕ → Type 0
IsShownFor line shown = (line ≡ shown ++ 13 ∷ [])
    ⊎ ((shown ≡ line) × ((front : List ℕ) → line ≢ front ++ 13 ∷ []))

-- the same, where there is such a line; else nothing
abbrev pub IsShownLine : Option (List ℕ) → List ℕ → Type 0
IsShownLine (Some line) shown = IsShownFor line shown
IsShownLine None shown = shown ≡ []

-- a byte of a text with its spot, whose numbers are no larger than it lets them be
abbrev pub IsStation : List ℕ → Station → Type 0
IsStation text s = (s.offset ≤ length text) × (s.spot ≡ spot_of text s.offset)
    × (s.spot.line ≤ s.offset + 1) × (s.spot.column ≤ s.offset + 1)
    × (s.spot.utf16 ≤ 2 * s.offset + 1)

-- How many characters begin among bytes.
use Rattle.std.specs.Prelude.{ℕ, ◌+◌, nat_lt, nat_le, cond, ◌||◌, List, [], ◌∷◌}

abbrev pub byte_width : ℕ → ℕ
byte_width b = cond (nat_lt b 128 || nat_le 192 b) 1 0

abbrev pub width_of : List ℕ → ℕ
width_of [] = 0
width_of (b ∷ bs) = byte_width b + width_of bs

-- In which order a set's policies are listed, by their names: behind a common word by the number
-- at the end, by value, so that `policy9` stands before `policy10`; else as texts are ordered.
use Rattle.std.specs.Prelude.{ℕ, ◌+◌, ◌*◌, ◌-◌, List, [], ◌∷◌, if◌then◌else◌}
use Rattle.std.specs.List.{list_all}
use Rattle.std.specs.Char.{is_ascii_digit}
use Rattle.std.specs.declared.cmp.Ordering.{Ordering}
use Rattle.std.specs.Ordering.{nat_cmp, on, then_cmp}
use Rattle.cedar_policy_store.specs.TextMap.{text_order}

-- the digits at the end of a name, and what stands before them
abbrev pub trailing_digits : List ℕ → List ℕ
trailing_digits [] = []
trailing_digits (c ∷ cs) = if list_all is_ascii_digit (c ∷ cs) then c ∷ cs else trailing_digits cs

abbrev pub stem : List ℕ → List ℕ
stem [] = []
stem (c ∷ cs) = if list_all is_ascii_digit (c ∷ cs) then [] else c ∷ stem cs

-- the number that digits spell behind those of another; that of no digits is 0
abbrev pub number_from : ℕ → List ℕ → ℕ
number_from n [] = n
number_from n (c ∷ cs) = number_from (n * 10 + (c - 48)) cs

abbrev pub digits_value : List ℕ → ℕ
digits_value cs = number_from 0 cs

-- how two names stand to one another
abbrev pub id_order : List ℕ → List ℕ → Ordering
id_order =
    then_cmp (on stem text_order)
    (then_cmp (on (λ id. digits_value (trailing_digits id)) nat_cmp) text_order)

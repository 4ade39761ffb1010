-- The position behind one byte more: the line feeds and the characters so far, and that byte.
use Rattle.std.proofs.Common.{◌≡◌, ℕ, ◌+◌, ◌<◌, List, [], ◌∷◌, ◌++◌, Bool, true, false, length, get_or, take, refl, ap, sym, ◌∙◌, arith}
use Rattle.std.specs.Prelude.{if◌then◌else◌}
use Rattle.std.proofs.lemmas.List.Sums.{sum_by_more, sum_by_push, fold_more}
use Rattle.std.specs.List.{count_by}
use Rattle.cedar_syntax.specs.places.Position.{is_line_feed, begins_character, line_with, last_line, line_behind, column_behind}

pub line_more : (bs : List ℕ) (i n m : ℕ) → i < length bs → n ≡ line_behind (take i bs) → m ≡ n + (if is_line_feed (get_or bs i 0) then 1 else 0) → m ≡ line_behind (take (i + 1) bs)
line_more bs i n m l e f = omega (arith, sum_by_more (λ x. if is_line_feed x then 1 else 0) bs i 0 l)

-- the column behind a line and one byte more, which may be a line feed
column_with : (line : List ℕ) (b n : ℕ) (feed : Bool) → n ≡ count_by begins_character line + 1 → (if feed then 1 else n + (if begins_character b then 1 else 0)) ≡ count_by begins_character (if feed then [] else line ++ b ∷ []) + 1
column_with line b n true e = refl
column_with line b n false e = omega (arith, sum_by_push (λ x. if begins_character x then 1 else 0) line b)

pub column_more : (bs : List ℕ) (i n m : ℕ) → i < length bs → n ≡ column_behind (take i bs) → m ≡ (if is_line_feed (get_or bs i 0) then 1 else n + (if begins_character (get_or bs i 0) then 1 else 0)) → m ≡ column_behind (take (i + 1) bs)
column_more bs i n m l e f =
    f ∙ column_with (last_line (take i bs)) (get_or bs i 0) n (is_line_feed (get_or bs i 0)) e ∙ ap (λ line. count_by begins_character line + 1) (sym (fold_more line_with [] bs i 0 l))

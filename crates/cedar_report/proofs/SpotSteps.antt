-- The spot behind one byte more.
use Rattle.std.proofs.Common.{◌≡◌, ℕ, ◌+◌, ◌<◌, ◌≤◌, List, [], ◌∷◌, ◌++◌, Bool, true, false, length, get_or, take, refl, ap, sym, ◌∙◌, arith}
use Rattle.std.specs.Prelude.{if◌then◌else◌, nat_le}
use Rattle.std.specs.List.{sum_by, count_by}
use Rattle.std.proofs.lemmas.List.Sums.{sum_by_more, sum_by_push, fold_more}
use Rattle.cedar_syntax.specs.places.Position.{is_line_feed, begins_character, line_with, last_line, line_behind, column_behind}
use Rattle.cedar_report.specs.declared.lines.Spot.{Spot}
use Rattle.cedar_report.specs.declared.lines.Station.{Station}
use Rattle.cedar_report.specs.Spots.{utf16_units, utf16_behind, spot_behind, spot_of, IsStation}

pub same_spot : (s : Spot) (l c u : ℕ) → s.line ≡ l → s.column ≡ c → s.utf16 ≡ u → s ≡ record { line = l; column = c; utf16 = u }
same_spot s l c u p q r =
    let f : ℕ → Spot = λ x. record { line = x; column = s.column; utf16 = s.utf16 } in
    let g : ℕ → Spot = λ x. record { line = l; column = x; utf16 = s.utf16 } in
    let h : ℕ → Spot = λ x. record { line = l; column = c; utf16 = x } in
    ap f p ∙ ap g q ∙ ap h r

pub line_more : (bs : List ℕ) (i n m : ℕ) → i < length bs → n ≡ line_behind (take i bs) → m ≡ n + (if is_line_feed (get_or bs i 0) then 1 else 0) → m ≡ line_behind (take (i + 1) bs)
line_more bs i n m l e f = omega (arith, sum_by_more (λ x. if is_line_feed x then 1 else 0) bs i 0 l)

-- the column behind a line and one byte more, which may be a line feed
column_with : (line : List ℕ) (b n : ℕ) (feed : Bool) → n ≡ count_by begins_character line + 1 → (if feed then 1 else n + (if begins_character b then 1 else 0)) ≡ count_by begins_character (if feed then [] else line ++ b ∷ []) + 1
column_with line b n true e = refl
column_with line b n false e = omega (arith, sum_by_push (λ x. if begins_character x then 1 else 0) line b)

column_more : (bs : List ℕ) (i n m : ℕ) → i < length bs → n ≡ column_behind (take i bs) → m ≡ (if is_line_feed (get_or bs i 0) then 1 else n + (if begins_character (get_or bs i 0) then 1 else 0)) → m ≡ column_behind (take (i + 1) bs)
column_more bs i n m l e f =
    f ∙ column_with (last_line (take i bs)) (get_or bs i 0) n (is_line_feed (get_or bs i 0)) e ∙ ap (λ line. count_by begins_character line + 1) (sym (fold_more line_with [] bs i 0 l))

-- the units behind a line and one byte more, which may be a line feed
units_with : (line : List ℕ) (b n : ℕ) (feed : Bool) → n ≡ sum_by utf16_units line + 1 → (if feed then 1 else n + utf16_units b) ≡ sum_by utf16_units (if feed then [] else line ++ b ∷ []) + 1
units_with line b n true e = refl
units_with line b n false e = omega (arith, sum_by_push utf16_units line b)

utf16_more : (bs : List ℕ) (i n m : ℕ) → i < length bs → n ≡ utf16_behind (take i bs) → m ≡ (if is_line_feed (get_or bs i 0) then 1 else n + utf16_units (get_or bs i 0)) → m ≡ utf16_behind (take (i + 1) bs)
utf16_more bs i n m l e f =
    f ∙ units_with (last_line (take i bs)) (get_or bs i 0) n (is_line_feed (get_or bs i 0)) e ∙ ap (λ line. sum_by utf16_units line + 1) (sym (fold_more line_with [] bs i 0 l))

bit_within : (b : Bool) → (if b then 1 else 0) ≤ 1
bit_within true = omega arith
bit_within false = omega arith

two_or_bit : (a b : Bool) → (if a then 2 else (if b then 1 else 0)) ≤ 2
two_or_bit true b = omega arith
two_or_bit false true = omega arith
two_or_bit false false = omega arith

units_within : (byte : ℕ) → utf16_units byte ≤ 2
units_within byte = two_or_bit (nat_le 240 byte) (begins_character byte)

-- one, or what is one or more below a bound
one_or_below : (b : Bool) (n bound : ℕ) → 1 ≤ bound → n ≤ bound → (if b then 1 else n) ≤ bound
one_or_below true n bound h k = h
one_or_below false n bound h k = k

-- a station, and the one behind the next byte
pub station_more : (bs : List ℕ) (s t : Station) (byte : ℕ) → IsStation bs s → s.offset < length bs → byte ≡ get_or bs s.offset 0
    → t.offset ≡ s.offset + 1
    → t.spot.line ≡ s.spot.line + (if is_line_feed byte then 1 else 0)
    → t.spot.column ≡ (if is_line_feed byte then 1 else s.spot.column + (if begins_character byte then 1 else 0))
    → t.spot.utf16 ≡ (if is_line_feed byte then 1 else s.spot.utf16 + utf16_units byte)
    → IsStation bs t
station_more bs s t byte h l e o p q r =
    let line = line_more bs s.offset s.spot.line t.spot.line l (ap (λ x. x.line) h.1) (p ∙ ap (λ b. s.spot.line + (if is_line_feed b then 1 else 0)) e) in
    let column = column_more bs s.offset s.spot.column t.spot.column l (ap (λ x. x.column) h.1) (q ∙ ap (λ b. if is_line_feed b then 1 else s.spot.column + (if begins_character b then 1 else 0)) e) in
    let utf16 = utf16_more bs s.offset s.spot.utf16 t.spot.utf16 l (ap (λ x. x.utf16) h.1) (r ∙ ap (λ b. if is_line_feed b then 1 else s.spot.utf16 + utf16_units b) e) in
    let spot = same_spot t.spot _ _ _ line column utf16 in (
      omega arith,
      spot ∙ ap (spot_of bs) (sym o),
      omega (arith, bit_within (is_line_feed byte), h.2),
      rw q (one_or_below (is_line_feed byte) _ _ (omega arith) (omega (arith, bit_within (begins_character byte), h.3))),
      rw r (one_or_below (is_line_feed byte) _ _ (omega arith) (omega (arith, units_within byte, h.4))),
    )

-- the text's first byte
pub station_first : (bs : List ℕ) (s : Station) → (s.offset ≡ 0) × (s.spot ≡ spot_behind []) → IsStation bs s
station_first bs s h = (
  omega (arith, h.0),
  h.1 ∙ ap (spot_of bs) (sym h.0),
  omega (arith, ap (λ x. x.line) h.1),
  omega (arith, ap (λ x. x.column) h.1),
  omega (arith, ap (λ x. x.utf16) h.1),
)

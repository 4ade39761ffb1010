-- How much two texts have in common, and where they part.
use Rattle.std.proofs.Common.{◌≡◌, ◌<◌, ◌+◌, ℕ, List, length, drop, get_or, min, nat_eq, Option, Some, eq-eqb, arith}
use Rattle.std.proofs.lemmas.Bool.{ne_eqb}
use Rattle.std.proofs.lemmas.List.{length-drop}
use Rattle.std.proofs.lemmas.List.Sums.{common_prefix_len-le, common_prefix_len-drop_yes, common_prefix_len-drop_no}
use Rattle.std.specs.List.{common_prefix_len}
use Rattle.cedar_report.specs.declared.finding.Extent.{Extent}
use Rattle.cedar_report.specs.Findings.{IsSeen, IsSeenAt}

-- they go on alike
pub alike : (xs ys : List ℕ) (i n : ℕ) → i < length xs → i < length ys → get_or xs i 0 ≡ get_or ys i 0 → i + common_prefix_len nat_eq (drop i xs) (drop i ys) ≡ n → i + 1 + common_prefix_len nat_eq (drop (i + 1) xs) (drop (i + 1) ys) ≡ n
alike xs ys i n more also same all =
    let step = common_prefix_len-drop_yes nat_eq xs ys i 0 0 more also (eq-eqb _ _ same) in
    omega (arith, step, all)

-- they part
pub parted : (xs ys : List ℕ) (i n : ℕ) → i < length xs → i < length ys → ¬ (get_or xs i 0 ≡ get_or ys i 0) → i + common_prefix_len nat_eq (drop i xs) (drop i ys) ≡ n → i ≡ n
parted xs ys i n more also differ all =
    let none = common_prefix_len-drop_no nat_eq xs ys i 0 0 more also (ne_eqb _ _ differ) in
    omega (arith, none, all)

-- one ends
pub ended : (xs ys : List ℕ) (i n : ℕ) → i ≡ min (length xs) (length ys) → i + common_prefix_len nat_eq (drop i xs) (drop i ys) ≡ n → i ≡ n
ended xs ys i n last all =
    let rest = common_prefix_len-le nat_eq (drop i xs) (drop i ys) in
    omega (arith, rest.0, rest.1, length-drop i xs, length-drop i ys, last, all)

-- a range of no bytes is seen there
pub seen_at : (text : List ℕ) (n : ℕ) (o : Option Extent) (at : Extent) → o ≡ Some at → at.start ≡ n → at.end ≡ n → IsSeen text at → IsSeenAt text n n o
seen_at text n o at is start end seen = rw is (start, end, seen)

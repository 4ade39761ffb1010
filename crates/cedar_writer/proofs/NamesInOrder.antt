-- The names that the policies of a text have, in the order in which a set lists them.
use Rattle.std.proofs.Common.{◌≡◌, ◌<◌, ◌≤◌, ◌^◌, ℕ, suc, true, false, ◌&&◌, true≢false, List, [], ◌∷◌, ◌++◌, codes, decimal, get_or, length, map, is_lt, nat_cmp, Less, refl, sym, ap, ◌∙◌, arith}
use Rattle.std.specs.Char.{is_ascii_digit}
use Rattle.std.specs.Cmp.{nat_cmp_is}
use Rattle.std.specs.List.{AllByRecursion, list_all}
use Rattle.std.specs.Ordering.{ordering_then}
use Rattle.std.specs.Str.{all_ascii_digits}
use Rattle.std.proofs.lemmas.Fmt.{digits_decimal, digits_value-decimal}
use Rattle.std.proofs.lemmas.Str.Parse.{IsNumeralModel, numerals_by_fold, tells_all_ascii_digits}
use Rattle.cedar_policy_store.specs.IdOrder.{digits_value, id_order, number_from, stem, trailing_digits}
use Rattle.cedar_policy_store.specs.TextMap.{text_order}
use Rattle.cedar_policy_store.proofs.Numbers.{all_digits}
use Rattle.cedar_policy_conversion.specs.PolicyMeaning.{policy_id}
use Rattle.cedar_writer.proofs.SameNumbers.{Rises}

-- ---- what a name is compared by

same_test : (cs : List ℕ) → all_ascii_digits cs ≡ list_all is_ascii_digit cs
same_test [] = refl
same_test (c ∷ cs) = ap (λ b. is_ascii_digit c && b) (same_test cs)

numerals : IsNumeralModel (λ cs. all_ascii_digits cs ≡ true) digits_value
numerals = numerals_by_fold (λ cs. all_ascii_digits cs ≡ true) tells_all_ascii_digits number_from (record { empty = λ n. refl; more = λ n c cs r. refl })

-- the number at the end of a name
abbrev pub number : List ℕ → ℕ
number id = digits_value (trailing_digits id)

module _ (n : ℕ) (small : n < 2 ^ 64) where
  ends : (stem (decimal n) ≡ []) × (trailing_digits (decimal n) ≡ decimal n)
  ends = all_digits (decimal n) (sym (same_test (decimal n)) ∙ digits_decimal numerals n small)

  named_stem : stem (policy_id n) ≡ codes "policy"
  named_stem = ap (λ s. codes "policy" ++ s) ends.0

  pub named_number : number (policy_id n) ≡ n
  named_number = ap digits_value ends.1 ∙ digits_value-decimal numerals n small

before : (m n : ℕ) → m < n → n < 2 ^ 64 → id_order (policy_id m) (policy_id n) ≡ Less
before m n l small =
    let less : m < 2 ^ 64 = omega (arith, l, small) in
    (λ i. ordering_then (text_order (named_stem m less i) (named_stem n small i)) (ordering_then (nat_cmp (named_number m less i) (named_number n small i)) (text_order (policy_id m) (policy_id n))))
    ∙ ap (λ r. ordering_then r (text_order (policy_id m) (policy_id n))) (sym (nat_cmp_is m n Less l))

-- ---- names that are numbered

abbrev pub IsNumbered : List ℕ → Type 0
IsNumbered id = (n : ℕ) × (n < 2 ^ 64) × (id ≡ policy_id n)

pub by_number : (id : List ℕ) → IsNumbered id → id ≡ policy_id (number id)
by_number id h = h.2 ∙ ap policy_id (sym (ap number h.2 ∙ named_number h.0 h.1))

pub one_number : (m n : ℕ) → m < 2 ^ 64 → n < 2 ^ 64 → policy_id m ≡ policy_id n → m ≡ n
one_number m n h k e = sym (named_number m h) ∙ ap number e ∙ named_number n k

not_before : (p q : List ℕ) → IsNumbered p → IsNumbered q → is_lt (id_order q p) ≡ false → number p ≤ number q
not_before p q h k later =
    let never : k.0 < h.0 → ⊥ = λ l. true≢false (sym (ap is_lt (before k.0 h.0 l h.1)) ∙ (λ i. is_lt (id_order (sym k.2 i) (sym h.2 i))) ∙ later) in
    omega (arith, ap number h.2 ∙ named_number h.0 h.1, ap number k.2 ∙ named_number k.0 k.1, never)

-- ---- names in their order

module _ {X : Type 0} (name : X → List ℕ) where
  abbrev AreNumberedNames : List X → Type 0
  AreNumberedNames xs = AllByRecursion (λ x. IsNumbered (name x)) xs

  at_least : (x : X) (xs : List X) → IsNumbered (name x) → AreNumberedNames xs → ((k : ℕ) → k < length xs → is_lt (id_order (name (get_or xs k x)) (name x)) ≡ false)
      → AllByRecursion (λ n. number (name x) ≤ n) (map number (map name xs))
  at_least x [] h hs later = tt
  at_least x (y ∷ ys) h hs later = (not_before (name x) (name y) h hs.0 (later 0 (omega arith)), at_least x ys h hs.1 (λ k l. later (suc k) (omega (arith, l))))

  -- what is sorted by these names has rising numbers
  pub sorted_rise : (xs : List X) → AreNumberedNames xs → ((i j : ℕ) (d : X) → i ≤ j → j < length xs → is_lt (id_order (name (get_or xs j d)) (name (get_or xs i d))) ≡ false)
      → Rises (map number (map name xs))
  sorted_rise [] hs later = tt
  sorted_rise (x ∷ xs) hs later = (
    at_least x xs hs.0 hs.1 (λ k l. later 0 (suc k) x (omega arith) (omega (arith, l))),
    sorted_rise xs hs.1 (λ i j d p q. later (suc i) (suc j) d (omega (arith, p)) (omega (arith, q))),
  )

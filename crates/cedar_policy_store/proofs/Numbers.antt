-- Numbers in digits: how they stand to one another, and where they begin in a name.
use Rattle.std.proofs.Common.{◌≡◌, ◌<◌, ◌≤◌, ◌+◌, ◌*◌, ◌-◌, ◌==◌, ◌&&◌, ℕ, zero, suc, Bool, true, false, nat_le, List, [], ◌∷◌, length, take, drop, refl, sym, ap, ◌∙◌, subst, if◌then◌else◌, arith, slice_index_or}
use Rattle.std.specs.List.{list_all}
use Rattle.std.specs.Char.{is_ascii_digit}
use Rattle.std.specs.declared.cmp.Ordering.{Ordering}
use Rattle.std.specs.declared.cmp.Ordering.TheVariants.{Less, Equal, Greater}
use Rattle.std.specs.Ordering.{nat_cmp, ordering_then}
use Rattle.std.specs.Cmp.{ranked, nat_cmp_is}
use Rattle.std.proofs.lemmas.Bool.{eqb-true, eqb-false, leb-true}
use Rattle.cedar_policy_store.specs.IdOrder.{number_from, digits_value, trailing_digits, stem}
use Rattle.cedar_policy_store.specs.TextMap.{text_order}
use Rattle.cedar_policy_store.specs.Zeros.{significant}

abbrev pub AreDigits : List ℕ → Type 0
AreDigits cs = list_all is_ascii_digit cs ≡ true

first_of : (a b : Bool) → (a && b) ≡ true → a ≡ true
first_of true b e = refl
first_of false b e = e

rest_of : (a b : Bool) → (a && b) ≡ true → b ≡ true
rest_of true b e = e
rest_of false b e = cc

bounds : (c : ℕ) → is_ascii_digit c ≡ true → (48 ≤ c) × (c ≤ 57)
bounds c e = (leb-true 48 c (first_of _ _ e), leb-true c 57 (rest_of (nat_le 48 c) _ e))

-- ---- numbers of as many digits

then_equal : (r : Ordering) → ordering_then r Equal ≡ r
then_equal Less = refl
then_equal Equal = refl
then_equal Greater = refl

ten_by : (n m x y : ℕ) (t : Ordering) → (48 ≤ x) × (x ≤ 57) → (48 ≤ y) × (y ≤ 57) → (r s : Ordering) → r ≡ nat_cmp n m → s ≡ nat_cmp x y → nat_cmp (n * 10 + (x - 48)) (m * 10 + (y - 48)) ≡ ordering_then r s
ten_by n m x y t h k Less s e f = sym (nat_cmp_is (n * 10 + (x - 48)) (m * 10 + (y - 48)) Less (omega (arith, ranked n m Less e, h.0, h.1, k.0, k.1)))
ten_by n m x y t h k Equal Less e f = sym (nat_cmp_is (n * 10 + (x - 48)) (m * 10 + (y - 48)) Less (omega (arith, ranked n m Equal e, ranked x y Less f, h.0, h.1, k.0, k.1)))
ten_by n m x y t h k Equal Equal e f = sym (nat_cmp_is (n * 10 + (x - 48)) (m * 10 + (y - 48)) Equal (omega (arith, ranked n m Equal e, ranked x y Equal f, h.0, h.1, k.0, k.1)))
ten_by n m x y t h k Equal Greater e f = sym (nat_cmp_is (n * 10 + (x - 48)) (m * 10 + (y - 48)) Greater (omega (arith, ranked n m Equal e, ranked x y Greater f, h.0, h.1, k.0, k.1)))
ten_by n m x y t h k Greater s e f = sym (nat_cmp_is (n * 10 + (x - 48)) (m * 10 + (y - 48)) Greater (omega (arith, ranked n m Greater e, h.0, h.1, k.0, k.1)))

then_then : (r s t : Ordering) → ordering_then (ordering_then r s) t ≡ ordering_then r (ordering_then s t)
then_then Less s t = refl
then_then Equal s t = refl
then_then Greater s t = refl

pub same_length : (n m : ℕ) (a b : List ℕ) → AreDigits a → AreDigits b → length a ≡ length b → nat_cmp (number_from n a) (number_from m b) ≡ ordering_then (nat_cmp n m) (text_order a b)
same_length n m [] [] p q e = sym (then_equal (nat_cmp n m))
same_length n m [] (y ∷ ys) p q e = cc
same_length n m (x ∷ xs) [] p q e = cc
same_length n m (x ∷ xs) (y ∷ ys) p q e =
    same_length (n * 10 + (x - 48)) (m * 10 + (y - 48)) xs ys (rest_of (is_ascii_digit x) _ p) (rest_of (is_ascii_digit y) _ q) (omega (arith, e))
    ∙ ap (λ r. ordering_then r (text_order xs ys)) (ten_by n m x y Equal (bounds x (first_of _ _ p)) (bounds y (first_of _ _ q)) (nat_cmp n m) (nat_cmp x y) refl refl)
    ∙ then_then (nat_cmp n m) (nat_cmp x y) (text_order xs ys)

-- ---- numbers of more digits

longer_by : (n x : ℕ) (xs b : List ℕ) → 0 < n → AreDigits (x ∷ xs) → AreDigits b → length b ≤ length (x ∷ xs) → (length b ≤ length xs → number_from 0 b < number_from (n * 10 + (x - 48)) xs) → (r : Ordering) → r ≡ nat_cmp (length b) (length (x ∷ xs)) → number_from 0 b < number_from n (x ∷ xs)
longer_by n x xs b h p q l more Less e = more (omega (arith, ranked (length b) (length (x ∷ xs)) Less e))
longer_by n x xs b h p q l more Equal e =
    ranked (number_from 0 b) (number_from n (x ∷ xs)) Less
    (sym (same_length 0 n b (x ∷ xs) q p (ranked (length b) (length (x ∷ xs)) Equal e) ∙ ap (λ r. ordering_then r (text_order b (x ∷ xs))) (sym (nat_cmp_is 0 n Less h))))
longer_by n x xs b h p q l more Greater e = omega (arith, l, ranked (length b) (length (x ∷ xs)) Greater e)

pub longer : (n : ℕ) (a b : List ℕ) → 0 < n → AreDigits a → AreDigits b → length b ≤ length a → number_from 0 b < number_from n a
longer n [] [] h p q l = h
longer n [] (y ∷ ys) h p q l = omega (arith, l)
longer n (x ∷ xs) b h p q l =
    longer_by n x xs b h p q l (λ k. longer (n * 10 + (x - 48)) xs b (omega (arith, h)) (rest_of (is_ascii_digit x) _ p) q k) (nat_cmp (length b) (length (x ∷ xs))) refl

-- ---- zeros at the beginning

zero_by : (c : ℕ) (cs : List ℕ) (b : Bool) → (c == 48) ≡ b → digits_value (significant cs) ≡ digits_value cs → digits_value (if b then significant cs else c ∷ cs) ≡ digits_value (c ∷ cs)
zero_by c cs true e h = h ∙ ap (λ n. number_from n cs) (omega (arith, eqb-true c 48 e))
zero_by c cs false e h = refl

pub number_significant : (cs : List ℕ) → digits_value (significant cs) ≡ digits_value cs
number_significant [] = refl
number_significant (c ∷ cs) = zero_by c cs (c == 48) refl (number_significant cs)

digits_by : (c : ℕ) (cs : List ℕ) (b : Bool) → AreDigits (c ∷ cs) → AreDigits (significant cs) → AreDigits (if b then significant cs else c ∷ cs)
digits_by c cs true p h = h
digits_by c cs false p h = p

pub digits_significant : (cs : List ℕ) → AreDigits cs → AreDigits (significant cs)
digits_significant [] p = p
digits_significant (c ∷ cs) p = digits_by c cs (c == 48) p (digits_significant cs (rest_of (is_ascii_digit c) _ p))

-- what stands first isn't a zero
abbrev pub LeadsOther : List ℕ → Type 0
LeadsOther [] = Unit {0}
LeadsOther (c ∷ cs) = (c == 48) ≡ false

first_by : (c : ℕ) (cs : List ℕ) (b : Bool) → (c == 48) ≡ b → LeadsOther (significant cs) → LeadsOther (if b then significant cs else c ∷ cs)
first_by c cs true e h = h
first_by c cs false e h = e

first_significant : (cs : List ℕ) → LeadsOther (significant cs)
first_significant [] = tt
first_significant (c ∷ cs) = first_by c cs (c == 48) refl (first_significant cs)

above_zero : (c : ℕ) → is_ascii_digit c ≡ true → (c == 48) ≡ false → 0 < c - 48
above_zero c p e = let other : c ≡ 48 → ⊥ = eqb-false c 48 e in omega (arith, (bounds c p).0, other)

-- more digits without zeros before them are a greater number
pub greater : (a b : List ℕ) → AreDigits a → AreDigits b → LeadsOther a → length b < length a → digits_value b < digits_value a
greater [] b p q h l = omega (arith, l)
greater (x ∷ xs) b p q h l =
    let more = longer (x - 48) xs b (above_zero x (first_of _ _ p) h) (rest_of (is_ascii_digit x) _ p) q (omega (arith, l)) in
    let own : x - 48 ≡ 0 * 10 + (x - 48) = omega arith in
    subst (λ n. number_from 0 b < number_from n xs) own more

number_by : (a b : List ℕ) → AreDigits a → AreDigits b → LeadsOther a → LeadsOther b → (r : Ordering) → r ≡ nat_cmp (length a) (length b) → nat_cmp (digits_value a) (digits_value b) ≡ ordering_then r (text_order a b)
number_by a b p q h k Less e = sym (nat_cmp_is (digits_value a) (digits_value b) Less (greater b a q p k (ranked (length a) (length b) Less e)))
number_by a b p q h k Equal e = same_length 0 0 a b p q (ranked (length a) (length b) Equal e)
number_by a b p q h k Greater e = sym (nat_cmp_is (digits_value a) (digits_value b) Greater (greater a b p q h (ranked (length a) (length b) Greater e)))

-- numbers stand to one another as their digits without zeros before them: by how many these are,
-- and else as texts
pub by_digits : (a b x y : List ℕ) → AreDigits a → AreDigits b → x ≡ significant a → y ≡ significant b → (r : Ordering) → r ≡ nat_cmp (length x) (length y) → ordering_then r (text_order x y) ≡ nat_cmp (digits_value a) (digits_value b)
by_digits a b x y p q f g r e =
    (λ i. ordering_then r (text_order (f i) (g i)))
    ∙ sym (number_by (significant a) (significant b) (digits_significant a p) (digits_significant b q) (first_significant a) (first_significant b) r (e ∙ (λ i. nat_cmp (length (f i)) (length (g i)))))
    ∙ (λ i. nat_cmp (number_significant a i) (number_significant b i))

-- ---- digits at the end

pub all_digits : (cs : List ℕ) → AreDigits cs → (stem cs ≡ []) × (trailing_digits cs ≡ cs)
all_digits [] p = (refl, refl)
all_digits (c ∷ cs) p = (ap (λ b. if b then [] else c ∷ stem cs) p, ap (λ b. if b then c ∷ cs else trailing_digits cs) p)

and_false : (a b : Bool) → b ≡ false → (a && b) ≡ false
and_false true b h = h
and_false false b h = refl

not_below : (k : ℕ) → k < 0 → ⊥
not_below k l = omega (arith, l)

-- a byte that is no digit
none_all : (cs : List ℕ) (k d : ℕ) → k < length cs → is_ascii_digit (slice_index_or cs k d) ≡ false → list_all is_ascii_digit cs ≡ false
none_all [] k d l e = absurd (not_below k l)
none_all (c ∷ cs) zero d l e = ap (λ b. b && list_all is_ascii_digit cs) e
none_all (c ∷ cs) (suc k) d l e = and_false (is_ascii_digit c) _ (none_all cs k d (omega (arith, l)) e)

pub begins_behind : (cs : List ℕ) (k d : ℕ) → k < length cs → is_ascii_digit (slice_index_or cs k d) ≡ false → AreDigits (drop (suc k) cs) → (take (suc k) cs ≡ stem cs) × (drop (suc k) cs ≡ trailing_digits cs)
begins_behind [] k d l e p = absurd (not_below k l)
begins_behind (c ∷ cs) zero d l e p =
    let none = none_all (c ∷ cs) zero d l e in
    let behind = all_digits cs p in
    (sym (ap (λ b. if b then [] else c ∷ stem cs) none ∙ ap (λ t. c ∷ t) behind.0), sym (ap (λ b. if b then c ∷ cs else trailing_digits cs) none ∙ behind.1))
begins_behind (c ∷ cs) (suc k) d l e p =
    let none = none_all (c ∷ cs) (suc k) d l e in
    let more = begins_behind cs k d (omega (arith, l)) e p in
    (ap (λ t. c ∷ t) more.0 ∙ sym (ap (λ b. if b then [] else c ∷ stem cs) none), more.1 ∙ sym (ap (λ b. if b then c ∷ cs else trailing_digits cs) none))

end_by : (c : ℕ) (cs : List ℕ) (b : Bool) → list_all is_ascii_digit (c ∷ cs) ≡ b → AreDigits (trailing_digits cs) → AreDigits (if b then c ∷ cs else trailing_digits cs)
end_by c cs true e h = e
end_by c cs false e h = h

-- the digits at the end are digits
pub end_digits : (cs : List ℕ) → AreDigits (trailing_digits cs)
end_digits [] = refl
end_digits (c ∷ cs) = end_by c cs (list_all is_ascii_digit (c ∷ cs)) refl (end_digits cs)

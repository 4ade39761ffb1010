-- Lists of numbers that don't fall and hold the same numbers are the same list.
use Rattle.std.proofs.Common.{◌≡◌, ◌<◌, ◌≤◌, ◌+◌, ℕ, zero, suc, Bool, true, false, cond, List, [], ◌∷◌, ◌++◌, leb, sum_by, refl, sym, ap, ◌∙◌, arith, le-leb, leb-true}
use Rattle.std.specs.List.{AllByRecursion}
use Rattle.std.proofs.lemmas.List.Sums.{sum_by-cons}

abbrev pub Rises : List ℕ → Type 0
Rises [] = Unit {0}
Rises (x ∷ xs) = AllByRecursion (λ y. x ≤ y) xs × Rises xs

-- each is in both as often: so what is summed over one is summed over the other
abbrev pub SameSums : List ℕ → List ℕ → Type 0
SameSums xs ys = (f : ℕ → ℕ) → sum_by f xs ≡ sum_by f ys

-- ---- how many are at most a number

abbrev at_most : ℕ → ℕ → ℕ
at_most x y = cond (leb y x) 1 0

itself : (x : ℕ) → at_most x x ≡ 1
itself x = ap (λ b. cond b 1 0) (le-leb x x (omega arith))

above_by : (x y : ℕ) (b : Bool) → leb y x ≡ b → x < y → ◌≡◌ {A = ℕ} (cond b 1 0) 0
above_by x y true e l = absurd (omega (arith, leb-true y x e, l))
above_by x y false e l = refl

above : (x y : ℕ) → x < y → at_most x y ≡ 0
above x y l = above_by x y (leb y x) refl l

none : (x y : ℕ) (ys : List ℕ) → x < y → AllByRecursion (λ z. y ≤ z) ys → sum_by (at_most x) ys ≡ 0
none x y [] l h = omega arith
none x y (z ∷ zs) l h = omega (arith, sum_by-cons (at_most x) z zs, above x z (omega (arith, l, h.0)), none x y zs l h.1)

-- ---- so the first of one isn't below the first of the other

not_below : (x y : ℕ) (xs ys : List ℕ) → AllByRecursion (λ z. y ≤ z) ys → SameSums (x ∷ xs) (y ∷ ys) → x < y → ⊥
not_below x y xs ys h same l =
    omega (arith, same (at_most x), sum_by-cons (at_most x) x xs, sum_by-cons (at_most x) y ys, itself x, above x y l, none x y ys l h)

neither_below : (x y : ℕ) → (x < y → ⊥) → (y < x → ⊥) → x ≡ y
neither_below x y h k = omega (arith, h, k)

pub same_numbers : (xs ys : List ℕ) → Rises xs → Rises ys → SameSums xs ys → xs ≡ ys
same_numbers [] [] r s same = refl
same_numbers [] (y ∷ ys) r s same = absurd (omega (arith, same (λ x. 1), sum_by-cons (λ x. 1) y ys))
same_numbers (x ∷ xs) [] r s same = absurd (omega (arith, same (λ x. 1), sum_by-cons (λ x. 1) x xs))
same_numbers (x ∷ xs) (y ∷ ys) r s same =
    let first : x ≡ y = neither_below x y (not_below x y xs ys s.0 same) (not_below y x ys xs r.0 (λ f. sym (same f))) in
    let rest : SameSums xs ys = λ f. omega (arith, same f, sum_by-cons f x xs, sum_by-cons f y ys, ap f first) in
    λ i. first i ∷ same_numbers xs ys r.1 s.1 rest i

-- ---- the numbers from one on

abbrev pub count_up : ℕ → ℕ → List ℕ
count_up n zero = []
count_up n (suc k) = n ∷ count_up (n + 1) k

pub one_more : (n k : ℕ) → count_up n (suc k) ≡ count_up n k ++ (n + k) ∷ []
one_more n zero = ap (λ m. m ∷ []) (omega arith)
one_more n (suc k) = ap (λ ms. n ∷ ms) (one_more (n + 1) k) ∙ ap (λ m. n ∷ (count_up (n + 1) k ++ m ∷ [])) (omega arith)

from_on : (m n k : ℕ) → m ≤ n → AllByRecursion (λ y. m ≤ y) (count_up n k)
from_on m n zero l = tt
from_on m n (suc k) l = (l, from_on m (n + 1) k (omega (arith, l)))

pub count_rises : (n k : ℕ) → Rises (count_up n k)
count_rises n zero = tt
count_rises n (suc k) = (from_on n (n + 1) k (omega arith), count_rises (n + 1) k)

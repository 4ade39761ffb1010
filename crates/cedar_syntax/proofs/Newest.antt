-- The last of a list is the newest of its reverse.
use Rattle.std.proofs.Common.{◌≡◌, ℕ, ◌-◌, ◌<◌, true, false, List, [], ◌∷◌, ◌++◌, Option, Some, None, MatchOption, MutBor, length, slice_index_or, slice_set, refl, sym, ap, ◌∙◌, subst, arith, length-append}
use Rattle.std.specs.Prelude.{◌↔◌, IfSome, reverse, slice_get}
use Rattle.std.specs.Option.{IsSome, option_copied}
use Rattle.cedar_syntax.specs.Stacks.{with_top}
use Rattle.std.proofs.lemmas.List.{reverse-append, reverse-reverse}
use denote.Ref.{Bor}

abbrev newest : {T : Type 0} → List T → Option T
newest [] = None
newest (x ∷ xs) = Some x

get_behind : {T : Type 0} → (zs : List T) (z : T) → slice_get (zs ++ z ∷ []) (length zs) ≡ Some z
get_behind [] z = refl
get_behind (y ∷ zs) z = get_behind zs z

last_index : {T : Type 0} → (zs : List T) (z : T) → length (zs ++ z ∷ []) - 1 ≡ length zs
last_index zs z = omega (arith, length-append zs (z ∷ []))

get_last : {T : Type 0} → (zs : List T) (z : T) → slice_get (zs ++ z ∷ []) (length (zs ++ z ∷ []) - 1) ≡ Some z
get_last zs z = subst (λ i. slice_get (zs ++ z ∷ []) i ≡ Some z) (sym (last_index zs z)) (get_behind zs z)

get_on : {T : Type 0} → (ys : List T) → slice_get (reverse ys) (length (reverse ys) - 1) ≡ newest ys
get_on [] = refl
get_on (y ∷ ys) = subst (λ zs. slice_get zs (length zs - 1) ≡ Some y) (sym (reverse-append (y ∷ []) ys)) (get_last (reverse ys) y)

newest_got : {T : Type 0} → (xs : List T) → slice_get xs (length xs - 1) ≡ newest (reverse xs)
newest_got xs = subst (λ zs. slice_get zs (length zs - 1) ≡ newest (reverse xs)) (reverse-reverse xs) (get_on (reverse xs))

some_none : {T : Type 0} (x : T) → Some x ≡ None → ⊥
some_none x e = cc

split : {T : Type 0} → (ys : List T) (r : Option (Bor T)) → option_copied r ≡ newest ys → MatchOption r (ys ≡ []) (λ x. (rest : List T) × (ys ≡ x.now ∷ rest))
split [] None e = refl
split [] (Some x) e = absurd (some_none x.now e)
split (y ∷ ys) None e = cc
split (y ∷ ys) (Some x) e = (ys, ap (λ z. z ∷ ys) cc)

-- of what a list lies in reverse as
pub top_got : {T : Type 0} → (xs ys : List T) (r : Option (Bor T)) → reverse xs ≡ ys → option_copied r ≡ slice_get xs (length xs - 1) → MatchOption r (ys ≡ []) (λ x. (rest : List T) × (ys ≡ x.now ∷ rest))
top_got xs ys r v e = split ys r (e ∙ newest_got xs ∙ ap newest v)

-- and it is lent there

or_behind : {T : Type 0} → (zs : List T) (z d : T) → slice_index_or (zs ++ z ∷ []) (length zs) d ≡ z
or_behind [] z d = refl
or_behind (y ∷ zs) z d = or_behind zs z d

or_on : {T : Type 0} → (y : T) (ys : List T) (d : T) → slice_index_or (reverse (y ∷ ys)) (length (reverse (y ∷ ys)) - 1) d ≡ y
or_on y ys d =
    subst (λ zs. slice_index_or zs (length zs - 1) d ≡ y) (sym (reverse-append (y ∷ []) ys))
    (subst (λ i. slice_index_or (reverse ys ++ y ∷ []) i d ≡ y) (sym (last_index (reverse ys) y)) (or_behind (reverse ys) y d))

has_last : {T : Type 0} → (y : T) (ys : List T) → 0 < length (reverse (y ∷ ys))
has_last y ys = subst (λ zs. 0 < length zs) (sym (reverse-append (y ∷ []) ys)) (omega (arith, length-append (reverse ys) (y ∷ [])))

none_is : false ≡ true → ⊥
none_is e = cc

lent_on : {T : Type 0} → (ys : List T) (r : Option (MutBor T)) (n : ℕ) → n ≡ length (reverse ys) → IsSome r ↔ (0 < n) → IfSome r (λ x. x.now ≡ slice_index_or (reverse ys) (n - 1) x.now) → MatchOption r (ys ≡ []) (λ x. (rest : List T) × (ys ≡ x.now ∷ rest))
lent_on [] None n e v i = refl
lent_on [] (Some x) n e v i = absurd (none_there n e (v.0 refl))
  where
    none_there : (n : ℕ) → n ≡ 0 → 0 < n → ⊥
    none_there n e h = omega arith
lent_on (y ∷ ys) None n e v i = absurd (none_is (v.1 (subst (λ n. 0 < n) (sym e) (has_last y ys))))
lent_on (y ∷ ys) (Some x) n e v i = (ys, ap (λ z. z ∷ ys) (sym (i ∙ ap (λ n. slice_index_or (reverse (y ∷ ys)) (n - 1) x.now) e ∙ or_on y ys x.now)))

pub top_lent : {T : Type 0} → (xs : List T) (r : Option (MutBor T)) (n : ℕ) → n ≡ length xs → IsSome r ↔ (0 < n) → IfSome r (λ x. x.now ≡ slice_index_or xs (n - 1) x.now) → MatchOption r (reverse xs ≡ []) (λ x. (rest : List T) × (reverse xs ≡ x.now ∷ rest))
top_lent {T = T} xs r =
    subst (λ zs. (n : ℕ) → n ≡ length zs → IsSome r ↔ (0 < n) → IfSome r (λ x. x.now ≡ slice_index_or zs (n - 1) x.now) → MatchOption r (reverse xs ≡ []) (λ x. (rest : List T) × (reverse xs ≡ x.now ∷ rest))) (reverse-reverse xs) (lent_on (reverse xs) r)

-- another is written there

set_behind : {T : Type 0} → (zs : List T) (z w : T) → slice_set (zs ++ z ∷ []) (length zs) w ≡ zs ++ w ∷ []
set_behind [] z w = refl
set_behind (y ∷ zs) z w = ap (λ us. y ∷ us) (set_behind zs z w)

set_on : {T : Type 0} → (ys : List T) (w : T) → reverse (slice_set (reverse ys) (length (reverse ys) - 1) w) ≡ with_top ys w
set_on [] w = refl
set_on (y ∷ ys) w =
    subst (λ zs. reverse (slice_set zs (length zs - 1) w) ≡ w ∷ ys) (sym (reverse-append (y ∷ []) ys))
    (ap (λ i. reverse (slice_set (reverse ys ++ y ∷ []) i w)) (last_index (reverse ys) y) ∙ ap (λ us. reverse us) (set_behind (reverse ys) y w) ∙ reverse-append (reverse ys) (w ∷ []) ∙ ap (λ us. w ∷ us) (reverse-reverse ys))

pub top_written : {T : Type 0} → (xs : List T) (n : ℕ) (w : T) → n ≡ length xs → reverse (slice_set xs (n - 1) w) ≡ with_top (reverse xs) w
top_written xs n w e = ap (λ n. reverse (slice_set xs (n - 1) w)) e ∙ subst (λ zs. reverse (slice_set zs (length zs - 1) w) ≡ with_top (reverse xs) w) (reverse-reverse xs) (set_on (reverse xs) w)

-- How a search from the left finds a key that stands twice.
use Rattle.std.proofs.Common.{not, ◌≡◌, ℕ, Bool, true, false, ◌||◌, List, [], ◌∷◌, ◌++◌, refl, ap, sym, ◌∙◌, cond, map, take, drop, length, get_or, ◌<◌, ◌+◌}
use Rattle.std.specs.List.{list_any}
use Rattle.std.specs.Str.{bytes_eq}
use Rattle.std.specs.Cmp.Lexicographic.{nat_list_eq_equiv, texts_ties, slice_cmp}
use Rattle.std.specs.Ordering.{nat_cmp, is_eq}
use Rattle.std.proofs.lemmas.List.{take_more, map-append, take-append-drop, append_assoc}
use Rattle.std.proofs.lemmas.List.Folds.{list_any-append}
use Rattle.cedar_expressions.specs.Keys.{repeats_key, StandsAgain}

or-true : (a : Bool) → (a || true) ≡ true
or-true true = refl
or-true false = refl

or-grows : (a b c d : Bool) → (a ≡ true → c ≡ true) → (b ≡ true → d ≡ true) → (a || b) ≡ true → (c || d) ≡ true
or-grows true b c d f g e = ap (λ z. z || d) (f refl)
or-grows false true c d f g e = ap (λ z. c || z) (g refl) ∙ or-true c
or-grows false false c d f g e = cc

regrouped : (a s r l : Bool) → ((a || (s || false)) || (r || l)) ≡ ((a || r) || (s || l))
regrouped true s r l = refl
regrouped false true true l = refl
regrouped false true false l = refl
regrouped false false r l = refl

-- one key more at the end
pub repeats-push : (ks : List (List ℕ)) (k : List ℕ) → repeats_key (ks ++ k ∷ []) ≡ (repeats_key ks || list_any (bytes_eq k) ks)
repeats-push [] k = refl
repeats-push (x ∷ xs) k =
    ap (λ z. z || repeats_key (xs ++ k ∷ [])) (list_any-append (bytes_eq x) xs (k ∷ []))
    ∙ (ap (λ z. (list_any (bytes_eq x) xs || (bytes_eq x k || false)) || z) (repeats-push xs k)
    ∙ (regrouped (list_any (bytes_eq x) xs) (bytes_eq x k) (repeats_key xs) (list_any (bytes_eq k) xs)
    ∙ ap (λ z. (list_any (bytes_eq x) xs || repeats_key xs) || (z || list_any (bytes_eq k) xs)) (nat_list_eq_equiv.symm x k)))

any-more : (p : List ℕ → Bool) (xs ys : List (List ℕ)) → list_any p xs ≡ true → list_any p (xs ++ ys) ≡ true
any-more p xs ys e = list_any-append p xs ys ∙ ap (λ z. z || list_any p ys) e

-- further keys don't take a repetition away
pub repeats-more : (xs ys : List (List ℕ)) → repeats_key xs ≡ true → repeats_key (xs ++ ys) ≡ true
repeats-more [] ys e = cc
repeats-more (x ∷ xs) ys e =
    or-grows (list_any (bytes_eq x) xs) (repeats_key xs) (list_any (bytes_eq x) (xs ++ ys)) (repeats_key (xs ++ ys)) (any-more (bytes_eq x) xs ys) (repeats-more xs ys) e

-- a key that isn't among those before it
pub still-single : (ks : List (List ℕ)) (k : List ℕ) → repeats_key ks ≡ false → list_any (bytes_eq k) ks ≡ false → repeats_key (ks ++ k ∷ []) ≡ false
still-single ks k single new = repeats-push ks k ∙ (ap (λ z. z || list_any (bytes_eq k) ks) single ∙ new)

-- a key that is among those before it
pub now-repeated : (ks : List (List ℕ)) (k : List ℕ) → list_any (bytes_eq k) ks ≡ true → repeats_key (ks ++ k ∷ []) ≡ true
now-repeated ks k old = repeats-push ks k ∙ (ap (λ z. repeats_key ks || z) old ∙ or-true (repeats_key ks))

or-last : (at old : Bool) → cond at true old ≡ (old || (at || false))
or-last true old = sym (or-true old)
or-last false true = refl
or-last false false = refl

-- a set of the keys so far, with one more
pub seen-more : (ks : List (List ℕ)) (k q : List ℕ) (old new : Bool) → new ≡ cond (is_eq (slice_cmp nat_cmp k q)) true old → old ≡ list_any (bytes_eq q) ks → new ≡ list_any (bytes_eq q) (ks ++ k ∷ [])
seen-more ks k q old new e before =
    e ∙ (or-last (is_eq (slice_cmp nat_cmp k q)) old
    ∙ (ap (λ z. z || (is_eq (slice_cmp nat_cmp k q) || false)) before
    ∙ (ap (λ z. list_any (bytes_eq q) ks || (z || false)) (sym (texts_ties k q) ∙ nat_list_eq_equiv.symm k q)
    ∙ sym (list_any-append (bytes_eq q) ks (k ∷ [])))))

-- the keys of pairs, one pair more
module _ {T : Type 0} where
  abbrev pub keys : List (List ℕ × T) → List (List ℕ)
  keys pairs = map (λ p. p.0) pairs

  pub keys-more : (pairs : List (List ℕ × T)) (i : ℕ) (p : List ℕ × T) (k : List ℕ) → i < length pairs → p ≡ get_or pairs i p → k ≡ p.0 → keys (take (i + 1) pairs) ≡ keys (take i pairs) ++ k ∷ []
  keys-more pairs i p k h e same =
      ap keys (take_more pairs i p h) ∙ (map-append (λ (p : List ℕ × T). p.0) (take i pairs) (get_or pairs i p ∷ [])
      ∙ ap (λ z. keys (take i pairs) ++ z ∷ []) (ap (λ (p : List ℕ × T). p.0) (sym e) ∙ sym same))

  keys-split : (pairs : List (List ℕ × T)) (i : ℕ) → keys pairs ≡ keys (take i pairs) ++ keys (drop i pairs)
  keys-split pairs i = ap keys (sym (take-append-drop i pairs)) ∙ map-append (λ (p : List ℕ × T). p.0) (take i pairs) (drop i pairs)

  keys-at : (pairs : List (List ℕ × T)) (i : ℕ) (p : List ℕ × T) (k : List ℕ) → i < length pairs → p ≡ get_or pairs i p → k ≡ p.0 → keys pairs ≡ (keys (take i pairs) ++ k ∷ []) ++ keys (drop (i + 1) pairs)
  keys-at pairs i p k h e same = keys-split pairs (i + 1) ∙ ap (λ z. z ++ keys (drop (i + 1) pairs)) (keys-more pairs i p k h e same)

  -- what is told of a key that was there before
  pub repeated : (pairs : List (List ℕ × T)) (i : ℕ) (p : List ℕ × T) (k : List ℕ) → i < length pairs → p ≡ get_or pairs i p → k ≡ p.0 → repeats_key (keys (take i pairs)) ≡ false → list_any (bytes_eq k) (keys (take i pairs)) ≡ true → (repeats_key (keys pairs) ≡ true) × StandsAgain k (keys pairs)
  repeated pairs i p k h e same single old =
      let whole = keys-at pairs i p k h e same in
      let ks = keys (take i pairs) in
      let rest = keys (drop (i + 1) pairs) in (
        ap repeats_key whole ∙ repeats-more (ks ++ k ∷ []) rest (now-repeated ks k old),
        (ks, rest, whole ∙ append_assoc ks (k ∷ []) rest, old, single),
      )

pub absent : (b : Bool) → not b ≡ true → b ≡ false
absent true e = sym e
absent false e = refl

pub present : (b : Bool) → not b ≡ false → b ≡ true
present true e = refl
present false e = sym e

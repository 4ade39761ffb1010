-- A map that is filled with what another one holds, in any order, each under its own name, is the
-- other one.
use Rattle.std.proofs.Common.{◌≡◌, ℕ, Bool, true, false, T, ◌&&◌, cond, List, [], ◌∷◌, map, fold, ◌⊎◌, inl, inr, Option, Some, None, option_map, refl, sym, ap, ◌∙◌, subst, true≢false}
use Rattle.std.specs.declared.cmp.Ordering.{Ordering}
use Rattle.std.specs.declared.cmp.Ordering.TheVariants.{Less, Equal, Greater}
use Rattle.std.specs.Ordering.{is_lt, is_eq, eq_by_cmp, ordering_reverse}
use Rattle.std.specs.Option.{unwrap_or}
use Rattle.std.specs.List.{AllByRecursion}
use Rattle.std.specs.Cmp.{tied_itself}
use Rattle.std.specs.Cmp.Lexicographic.{nat_list_cmp_total}
use Rattle.std.specs.FinMap.{FinMap, empty, entries, entries_sorted, is_sorted, find, get, insert, values, get-entries, get-empty, get-insert, same_map}
use Rattle.std.specs.FinMap.Entries.{below_all}
use Rattle.cedar_policy_store.specs.PlaceFree.{with_values}
use Rattle.cedar_policy_store.specs.TextMap.{text_order}
use Rattle.cedar_policy_store.proofs.EqualPolicies.{get-with_values}
use Rattle.cedar_policy_store.proofs.MapsByText.{tied_texts}

first : (a b : Bool) → T (a && b) → T a
first true b p = tt
first false b p = p

second : (a b : Bool) → T (a && b) → T b
second true b p = p
second false b p = absurd p

less : (o : Ordering) → T (is_lt o) → o ≡ Less
less Less p = refl
less Equal p = absurd p
less Greater p = absurd p

equal : (o : Ordering) → is_eq o ≡ true → o ≡ Equal
equal Less e = absurd (true≢false (sym e))
equal Equal e = refl
equal Greater e = absurd (true≢false (sym e))

same_names : (q k : List ℕ) → eq_by_cmp text_order q k ≡ true → q ≡ k
same_names q k e = tied_texts q k (equal (text_order q k) e)

own_name : (k : List ℕ) → eq_by_cmp text_order k k ≡ true
own_name k = ap is_eq (tied_itself nat_list_cmp_total k)

some_same : {X : Type 0} (x y : X) → Some x ≡ Some y → x ≡ y
some_same x y e = ap (λ o. unwrap_or o x) e

abbrev is_there : {X : Type 0} → Option X → Bool
is_there None = false
is_there (Some x) = true

-- ---- what stands in a list

abbrev pub Among : {X : Type 0} → X → List X → Type 0
Among x [] = ⊥
Among x (y ∷ ys) = (y ≡ x) ⊎ Among x ys

module _ {X : Type 0} where
  later : (x : X) (zs ys : List X) → AllByRecursion (λ y. Among y zs) ys → AllByRecursion (λ y. Among y (x ∷ zs)) ys
  later x zs [] h = tt
  later x zs (y ∷ ys) h = (inr h.0, later x zs ys h.1)

  pub all_among : (xs : List X) → AllByRecursion (λ y. Among y xs) xs
  all_among [] = tt
  all_among (x ∷ xs) = (inl refl, later x xs xs (all_among xs))

  pub of_all : (P : X → Type 0) (x : X) (xs : List X) → AllByRecursion P xs → Among x xs → P x
  of_all P x [] h a = absurd a
  of_all P x (y ∷ ys) h (inl e) = subst P e h.0
  of_all P x (y ∷ ys) h (inr a) = of_all P x ys h.1 a

-- ---- what a sorted list of entries holds

module _ {X : Type 0} where
  abbrev Found : List (List ℕ × X) → List (List ℕ × X) → Type 0
  Found all [] = Unit {0}
  Found all (e ∷ es) = (find text_order e.0 all ≡ Some e.1) × Found all es

  passed : (e : List ℕ × X) (all es : List (List ℕ × X)) → T (below_all text_order e.0 es) → Found all es → Found (e ∷ all) es
  passed e all [] below h = tt
  passed e all (x ∷ es) below h = (
    ap (λ o. cond (is_eq o) (Some e.1) (find text_order x.0 all)) (nat_list_cmp_total.antisymm x.0 e.0 ∙ ap ordering_reverse (less (text_order e.0 x.0) (first _ _ below))) ∙ h.0,
    passed e all es (second _ _ below) h.1,
  )

  all_found : (es : List (List ℕ × X)) → T (is_sorted text_order es) → Found es es
  all_found [] h = tt
  all_found (e ∷ es) h = (
    ap (λ b. cond b (Some e.1) (find text_order e.0 es)) (own_name e.0),
    passed e es es (first _ _ h) (all_found es (second _ _ h)),
  )

  found_here : (b : Bool) (e : List ℕ × X) (es : List (List ℕ × X)) (rest : Option X) (x : X) → cond b (Some e.1) rest ≡ Some x → (rest ≡ Some x → Among x (map (λ e. e.1) es)) → Among x (map (λ e. e.1) (e ∷ es))
  found_here true e es rest x h more = inl (some_same e.1 x h)
  found_here false e es rest x h more = inr (more h)

  found_among : (q : List ℕ) (es : List (List ℕ × X)) (x : X) → find text_order q es ≡ Some x → Among x (map (λ e. e.1) es)
  found_among q [] x h = absurd (true≢false (sym (ap is_there h)))
  found_among q (e ∷ es) x h = found_here (eq_by_cmp text_order q e.0) e es (find text_order q es) x h (found_among q es x)

  -- what a map gives is one of its values
  pub got_among : (m : FinMap text_order X) (q : List ℕ) (x : X) → get m q ≡ Some x → Among x (values m)
  got_among m q x h = found_among q (entries m) x (sym (get-entries m q) ∙ h)

  module _ (name : X → List ℕ) where
    abbrev pub StandUnderNames : List (List ℕ × X) → Type 0
    StandUnderNames [] = Unit {0}
    StandUnderNames (e ∷ es) = (name e.1 ≡ e.0) × StandUnderNames es

    held : (m : FinMap text_order X) (es : List (List ℕ × X)) → Found (entries m) es → StandUnderNames es → AllByRecursion (λ x. get m (name x) ≡ Some x) (map (λ e. e.1) es)
    held m [] f n = tt
    held m (e ∷ es) f n = (get-entries m (name e.1) ∙ ap (λ k. find text_order k (entries m)) n.0 ∙ f.0, held m es f.1 n.1)

    -- each value of a map is what the map gives under the value's name
    pub all_held : (m : FinMap text_order X) → StandUnderNames (entries m) → AllByRecursion (λ x. get m (name x) ≡ Some x) (values m)
    all_held m n = held m (entries m) (all_found (entries m) (entries_sorted m)) n

    named_here : (b : Bool) (q : List ℕ) (e : List ℕ × X) (rest : Option X) (x : X) → b ≡ eq_by_cmp text_order q e.0 → name e.1 ≡ e.0 → cond b (Some e.1) rest ≡ Some x → (rest ≡ Some x → name x ≡ q) → name x ≡ q
    named_here true q e rest x b n h more = ap name (sym (some_same e.1 x h)) ∙ n ∙ sym (same_names q e.0 (sym b))
    named_here false q e rest x b n h more = more h

    found_named : (q : List ℕ) (es : List (List ℕ × X)) (x : X) → StandUnderNames es → find text_order q es ≡ Some x → name x ≡ q
    found_named q [] x n h = absurd (true≢false (sym (ap is_there h)))
    found_named q (e ∷ es) x n h = named_here (eq_by_cmp text_order q e.0) q e (find text_order q es) x refl n.0 h (found_named q es x n.1)

    got_named : (m : FinMap text_order X) → StandUnderNames (entries m) → (q : List ℕ) (x : X) → get m q ≡ Some x → name x ≡ q
    got_named m n q x h = found_named q (entries m) x n (sym (get-entries m q) ∙ h)

    -- ---- filling a map

    module _ {Y : Type 0} (f : X → Y) where
      abbrev pub put_named : FinMap text_order Y → X → FinMap text_order Y
      put_named n x = insert n (name x) (f x)

      -- what is known of the map so far where the other one gives this, and these are still to come
      abbrev Known : List ℕ → Option X → FinMap text_order Y → List X → Type 0
      Known q None n xs = get n q ≡ None
      Known q (Some x) n xs = (get n q ≡ Some (f x)) ⊎ Among x xs

      module _ (m : FinMap text_order X) (names : StandUnderNames (entries m)) (q : List ℕ) where
        -- under this name
        put_here : (o : Option X) (n : FinMap text_order Y) (x : X) (xs : List X) → get m q ≡ o → get m (name x) ≡ Some x → q ≡ name x → get (put_named n x) q ≡ Some (f x) → Known q o (put_named n x) xs
        put_here None n x xs e own same g = absurd (true≢false (ap is_there (sym own ∙ ap (get m) (sym same) ∙ e)))
        put_here (Some y) n x xs e own same g = inl (g ∙ ap (λ z. Some (f z)) (some_same x y (sym own ∙ ap (get m) (sym same) ∙ e)))

        -- under another one
        put_elsewhere : (o : Option X) (n : FinMap text_order Y) (x : X) (xs : List X) → get m q ≡ o → eq_by_cmp text_order q (name x) ≡ false → get (put_named n x) q ≡ get n q → Known q o n (x ∷ xs) → Known q o (put_named n x) xs
        put_elsewhere None n x xs e other g k = g ∙ k
        put_elsewhere (Some y) n x xs e other g (inl k) = inl (g ∙ k)
        put_elsewhere (Some y) n x xs e other g (inr (inl same)) =
            absurd (true≢false (sym (own_name q) ∙ ap (eq_by_cmp text_order q) (sym (got_named m names q y e) ∙ ap name (sym same)) ∙ other))
        put_elsewhere (Some y) n x xs e other g (inr (inr k)) = inr k

        put_one : (b : Bool) (o : Option X) (n : FinMap text_order Y) (x : X) (xs : List X) → eq_by_cmp text_order q (name x) ≡ b → get m q ≡ o → get m (name x) ≡ Some x → get (put_named n x) q ≡ cond b (Some (f x)) (get n q) → Known q o n (x ∷ xs) → Known q o (put_named n x) xs
        put_one true o n x xs tie e own g k = put_here o n x xs e own (same_names q (name x) tie) g
        put_one false o n x xs tie e own g k = put_elsewhere o n x xs e tie g k

        none_left : (o : Option X) (n : FinMap text_order Y) → Known q o n [] → get n q ≡ option_map f o
        none_left None n k = k
        none_left (Some x) n (inl k) = k
        none_left (Some x) n (inr a) = absurd a

        gets : (xs : List X) (o : Option X) (n : FinMap text_order Y) → get m q ≡ o → AllByRecursion (λ x. get m (name x) ≡ Some x) xs → Known q o n xs → get (fold put_named n xs) q ≡ option_map f o
        gets [] o n e own k = none_left o n k
        gets (x ∷ xs) o n e own k = gets xs o (put_named n x) e own.1 (put_one (eq_by_cmp text_order q (name x)) o n x xs refl e own.0 (get-insert nat_list_cmp_total n (name x) (f x) q) k)

        begun : (xs : List X) (o : Option X) → get m q ≡ o → ((x : X) → get m q ≡ Some x → Among x xs) → Known q o empty xs
        begun xs None e all = get-empty text_order q
        begun xs (Some x) e all = inr (all x e)

      pub refilled : (m : FinMap text_order X) → StandUnderNames (entries m) → (xs : List X) → AllByRecursion (λ x. get m (name x) ≡ Some x) xs
          → ((q : List ℕ) (x : X) → get m q ≡ Some x → Among x xs) → fold put_named empty xs ≡ with_values f m
      refilled m names xs own all =
          same_map nat_list_cmp_total tied_texts _ _
          (λ q. gets m names q xs (get m q) empty refl own (begun m names q xs (get m q) refl (all q)) ∙ sym (get-with_values f m q))

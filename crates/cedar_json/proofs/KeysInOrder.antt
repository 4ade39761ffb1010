-- Entries in the order of their keys, added one after another, are the map that they were taken of.
use Rattle.std.proofs.Common.{◌≡◌, ℕ, Bool, true, false, T, ◌&&◌, ◌||◌, List, [], ◌∷◌, ◌++◌, length, refl, sym, ap, ◌∙◌, subst, append_assoc, append-nil}
use Rattle.std.specs.Prelude.{fold}
use Rattle.std.specs.declared.cmp.Ordering.{Ordering}
use Rattle.std.specs.declared.cmp.Ordering.TheVariants.{Less, Equal, Greater}
use Rattle.std.specs.Ordering.{is_lt, is_eq, ordering_reverse}
use Rattle.std.specs.List.{list_any}
use Rattle.std.specs.Str.{bytes_eq}
use Rattle.std.specs.Cmp.Lexicographic.{nat_list_cmp_total, texts_ties}
use Rattle.std.specs.FinMap.{FinMap, empty, insert, entries, entries_sorted, entries-insert, same_entries_map, put, is_sorted, len-entries, empty_of_len, from_sorted, entries-from_sorted}
use Rattle.std.specs.FinMap.Entries.{below_all, by_order}
use Rattle.std.specs.Map.{keys_of}
use Rattle.cedar_expressions.specs.Keys.{repeats_key}
use Rattle.cedar_policy_store.specs.TextMap.{text_order}
use Rattle.cedar_json.specs.PolicyReadings.{keyed}

first : (a b : Bool) → T (a && b) → T a
first true b p = tt
first false b p = p

second : (a b : Bool) → T (a && b) → T b
second true b p = p
second false b p = absurd p

both : (a b : Bool) → T a → T b → T (a && b)
both true b p q = q
both false b p q = p

less : (o : Ordering) → T (is_lt o) → o ≡ Less
less Less p = refl
less Equal p = absurd p
less Greater p = absurd p

module _ {X : Type 0} where
  last_below : (k q : List ℕ) (v : X) (es : List (List ℕ × X)) → T (below_all text_order k (es ++ (q, v) ∷ [])) → text_order k q ≡ Less
  last_below k q v [] h = less (text_order k q) (first _ _ h)
  last_below k q v (e ∷ es) h = last_below k q v es (second _ _ h)

  behind_all : (k : List ℕ) (v : X) (es : List (List ℕ × X)) → T (is_sorted text_order (es ++ (k, v) ∷ [])) → put text_order k v es ≡ es ++ (k, v) ∷ []
  behind_all k v [] h = refl
  behind_all k v (e ∷ es) h =
      let after : text_order k e.0 ≡ Greater = nat_list_cmp_total.antisymm k e.0 ∙ ap ordering_reverse (last_below e.0 k v es (first _ _ h)) in
      ap (λ o. by_order o ((k, v) ∷ e ∷ es) ((e.0, v) ∷ es) (e ∷ put text_order k v es)) after
      ∙ ap (λ fs. e ∷ fs) (behind_all k v es (second _ _ h))

  front_below : (k : List ℕ) (xs ys : List (List ℕ × X)) → T (below_all text_order k (xs ++ ys)) → T (below_all text_order k xs)
  front_below k [] ys h = tt
  front_below k (x ∷ xs) ys h = both _ _ (first _ _ h) (front_below k xs ys (second _ _ h))

  front_sorted : (xs ys : List (List ℕ × X)) → T (is_sorted text_order (xs ++ ys)) → T (is_sorted text_order xs)
  front_sorted [] ys h = tt
  front_sorted (x ∷ xs) ys h = both _ _ (front_below x.0 xs ys (first _ _ h)) (front_sorted xs ys (second _ _ h))

  filled : (m : FinMap text_order X) (xs : List (List ℕ × X)) → T (is_sorted text_order (entries m ++ xs)) → entries (fold (λ (n : FinMap text_order X) (p : List ℕ × X). insert n p.0 p.1) m xs) ≡ entries m ++ xs
  filled m [] h = sym (append-nil (entries m))
  filled m (x ∷ xs) h =
      let split : (entries m ++ x ∷ []) ++ xs ≡ entries m ++ x ∷ xs = append_assoc (entries m) (x ∷ []) xs in
      let front : T (is_sorted text_order (entries m ++ x ∷ [])) = front_sorted (entries m ++ x ∷ []) xs (subst (λ es. T (is_sorted text_order es)) (sym split) h) in
      let more : entries (insert m x.0 x.1) ≡ entries m ++ x ∷ [] = entries-insert nat_list_cmp_total m x.0 x.1 ∙ behind_all x.0 x.1 (entries m) front in
      let whole : entries (insert m x.0 x.1) ++ xs ≡ entries m ++ x ∷ xs = ap (λ es. es ++ xs) more ∙ split in
      filled (insert m x.0 x.1) xs (subst (λ es. T (is_sorted text_order es)) (sym whole) h) ∙ whole

pub nothing_in : (X : Type 0) → entries (empty {X = X} {R = text_order}) ≡ []
nothing_in X =
    let m : FinMap text_order X = from_sorted {R = text_order} [] in
    let none : entries m ≡ [] = entries-from_sorted text_order [] tt in
    sym (ap entries (empty_of_len m (len-entries m ∙ ap length none))) ∙ none

no_entries : {X : Type 0} (es : List (List ℕ × X)) → entries (empty {X = X} {R = text_order}) ++ es ≡ es
no_entries {X = X} es = ap (λ t. t ++ es) (nothing_in X)

pub by_key_sorted : {X : Type 0} (m : FinMap text_order X) (es : List (List ℕ × X)) → entries m ≡ es → keyed es ≡ m
by_key_sorted m es e =
    let sorted : T (is_sorted text_order es) = subst (λ xs. T (is_sorted text_order xs)) e (entries_sorted m) in
    same_entries_map (keyed es) m
    (filled empty es (subst (λ xs. T (is_sorted text_order xs)) (sym (no_entries es)) sorted) ∙ no_entries es ∙ sym e)

pub by_key_entries : {X : Type 0} (m : FinMap text_order X) → keyed (entries m) ≡ m
by_key_entries m = by_key_sorted m (entries m) refl

-- ---- keys in order differ

apart : (k q : List ℕ) → text_order k q ≡ Less → bytes_eq k q ≡ false
apart k q e = texts_ties k q ∙ ap is_eq e

none_again : {X : Type 0} (k : List ℕ) (es : List (List ℕ × X)) → T (below_all text_order k es) → list_any (bytes_eq k) (keys_of es) ≡ false
none_again k [] h = refl
none_again k (e ∷ es) h = ap (λ b. b || list_any (bytes_eq k) (keys_of es)) (apart k e.0 (less (text_order k e.0) (first _ _ h))) ∙ none_again k es (second _ _ h)

pub keys_differ : {X : Type 0} (es : List (List ℕ × X)) → T (is_sorted text_order es) → repeats_key (keys_of es) ≡ false
keys_differ [] h = refl
keys_differ (e ∷ es) h = ap (λ b. b || repeats_key (keys_of es)) (none_again e.0 es (first _ _ h)) ∙ keys_differ es (second _ _ h)

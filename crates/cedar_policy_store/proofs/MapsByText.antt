-- Trees of entries by text, and the finite maps that they are seen as.
use Rattle.std.proofs.Common.{◌≡◌, ◌&&◌, ℕ, Bool, true, false, T, List, [], ◌∷◌, length, Some, None, is_some, refl, sym, ap, ◌∙◌, subst, cond}
use Rattle.std.specs.declared.cmp.Ordering.{Ordering}
use Rattle.std.specs.declared.cmp.Ordering.TheVariants.{Less, Equal, Greater}
use Rattle.std.specs.Ordering.{is_lt, is_eq, match_ordering, ordering_reverse, eq_by_cmp}
use Rattle.std.specs.List.{AllByRecursion}
use Rattle.std.specs.List.Sorted.{IsStrictlySortedBy}
use Rattle.std.specs.Cmp.Lexicographic.{pointwise, nat_list_cmp_total}
use Rattle.std.specs.FinMap.{from_sorted, find, put, is_sorted, entries, get, contains_key, insert, remove, get-remove, same_map, empty, len, values, same_entries_map, entries-from_sorted, entries-insert, get-entries, empty_of_len, len-entries, nat_cmp-IsAntisymmetric, slice_cmp-IsAntisymmetric}
use Rattle.std.specs.FinMap.Entries.{below_all, by_order}
use Rattle.std.specs.Map.{keys_of, values_of, lookup}
use Rattle.std.specs.BTreeMap.{BTreeMap, IsOrdered, IsClone, is_at, insert_entry}
use Rattle.std.specs.BTreeMap as tree
use Rattle.std.proofs.lemmas.List.Elements.{same_from_all_zip}
use Rattle.cedar_policy_store.specs.TextMap.{text_order, map_in, same_entry_by, same_map_by}

both : (a b : Bool) → T a → T b → T (a && b)
both true b p q = q
both false b p q = p

either_way : (r s : Ordering) → r ≡ ordering_reverse s → is_eq r ≡ is_eq s
either_way r Less e = ap is_eq e
either_way r Equal e = ap is_eq e
either_way r Greater e = ap is_eq e

module _ {X : Type 0} where
  below : (k : List ℕ) (es : List (List ℕ × X)) → AllByRecursion (λ y. text_order k y ≡ Less) (keys_of es) → T (below_all text_order k es)
  below k [] h = tt
  below k (e ∷ es) h = both _ _ (subst (λ r. T (is_lt r)) (sym h.0) tt) (below k es h.1)

  in_order : (es : List (List ℕ × X)) → IsStrictlySortedBy text_order (keys_of es) → T (is_sorted text_order es)
  unfolding IsStrictlySortedBy
  in_order [] h = tt
  in_order (e ∷ es) h = both _ _ (below e.0 es h.0) (in_order es h.1)

  -- the entries that a map was made of
  pub entries-map_in : (m : BTreeMap (List ℕ) X) → IsOrdered text_order m → entries (map_in m) ≡ m.entries
  entries-map_in m h = entries-from_sorted text_order m.entries (in_order m.entries h)

  found : (q : List ℕ) (es : List (List ℕ × X)) → find text_order q es ≡ lookup (is_at (text_order q)) es
  found q [] = refl
  found q (e ∷ es) = ap (cond (is_at (text_order q) e.0) (Some e.1)) (found q es)

  -- what is found at a key
  pub get-map_in : (m : BTreeMap (List ℕ) X) (q : List ℕ) → IsOrdered text_order m → get (map_in m) q ≡ tree.get text_order m q
  get-map_in m q h = get-entries (map_in m) q ∙ ap (find text_order q) (entries-map_in m h) ∙ found q m.entries

  placed : (r : Ordering) (a b c d : List (List ℕ × X)) → c ≡ d → by_order r a b c ≡ match_ordering r a b d
  placed Less a b c d e = refl
  placed Equal a b c d e = refl
  placed Greater a b c d e = e

  put_is : (k : List ℕ) (v : X) (es : List (List ℕ × X)) → put text_order k v es ≡ insert_entry text_order es k v
  put_is k v [] = refl
  put_is k v (e ∷ es) = placed (text_order k e.0) _ _ _ _ (ap (λ fs. e ∷ fs) (put_is k v es))

  pub len-map_in : (m : BTreeMap (List ℕ) X) → IsOrdered text_order m → len (map_in m) ≡ length m.entries
  len-map_in m h = len-entries (map_in m) ∙ ap length (entries-map_in m h)

  pub values-map_in : (m : BTreeMap (List ℕ) X) → IsOrdered text_order m → values (map_in m) ≡ tree.values m
  values-map_in m h = ap values_of (entries-map_in m h)

  -- maps by a comparison of their values
  pub same-map_in : (same : X → X → Bool) (m n : BTreeMap (List ℕ) X) → IsOrdered text_order m → IsOrdered text_order n → same_map_by same (map_in m) (map_in n) ≡ pointwise (same_entry_by same) m.entries n.entries
  same-map_in same m n h g = λ i. pointwise (same_entry_by same) (entries-map_in m h i) (entries-map_in n g i)

  pub contains-map_in : (m : BTreeMap (List ℕ) X) (q : List ℕ) → IsOrdered text_order m → contains_key (map_in m) q ≡ is_some (tree.get text_order m q)
  contains-map_in m q h = ap is_some (get-map_in m q h)

  -- one entry more
  pub map_in-insert : (m n : BTreeMap (List ℕ) X) (k : List ℕ) (v : X) → IsOrdered text_order m → IsOrdered text_order n → n.entries ≡ insert_entry text_order m.entries k v → map_in n ≡ insert (map_in m) k v
  map_in-insert m n k v h g e =
      same_entries_map (map_in n) (insert (map_in m) k v)
      (entries-map_in n g ∙ e ∙ sym (put_is k v m.entries) ∙ ap (put text_order k v) (sym (entries-map_in m h)) ∙ sym (entries-insert nat_list_cmp_total (map_in m) k v))

  -- without an entry
  pub map_in-remove : (m n : BTreeMap (List ℕ) X) (k : List ℕ) → IsOrdered text_order m → IsOrdered text_order n → ((q : List ℕ) → tree.get text_order n q ≡ cond (is_at (text_order k) q) None (tree.get text_order m q)) → map_in n ≡ remove (map_in m) k
  map_in-remove m n k h g e =
      same_map nat_list_cmp_total (slice_cmp-IsAntisymmetric nat_cmp-IsAntisymmetric) (map_in n) (remove (map_in m) k)
      (λ q. get-map_in n q g ∙ e q ∙ ap (λ b. cond b None (tree.get text_order m q)) (either_way (text_order k q) (text_order q k) (nat_list_cmp_total.antisymm k q))
      ∙ ap (cond (eq_by_cmp text_order q k) None) (sym (get-map_in m q h)) ∙ sym (get-remove nat_list_cmp_total (map_in m) k q))

  -- the same entries
  pub map_in-same : (m n : BTreeMap (List ℕ) X) → n.entries ≡ m.entries → map_in n ≡ map_in m
  map_in-same m n e = ap (from_sorted {R = text_order}) e

  pub map_in-empty : (m : BTreeMap (List ℕ) X) → m.entries ≡ [] → map_in m ≡ empty
  map_in-empty m e = ap (from_sorted {R = text_order}) e ∙ empty_of_len _ (len-entries _ ∙ ap length (entries-from_sorted text_order [] tt))

  -- a copy whose keys and values are copies
  pub map_in-clone : (m n : BTreeMap (List ℕ) X) → IsClone (λ x y. y ≡ x) (λ x y. y ≡ x) m n → n.entries ≡ m.entries
  map_in-clone m n h = same_from_all_zip _ m.entries n.entries h (λ x y e i. (e.0 i, e.1 i))

pub tied_texts : (x y : List ℕ) → text_order x y ≡ Equal → x ≡ y
tied_texts = slice_cmp-IsAntisymmetric nat_cmp-IsAntisymmetric

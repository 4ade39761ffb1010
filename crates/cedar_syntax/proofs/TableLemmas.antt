-- A table of tokens as its rules, where its sets and its map were made of arrays.
use Rattle.std.proofs.Common.{◌≡◌, ℕ, refl, ap, sym, ◌∙◌, Bool, true, false, cond, not, ◌||◌, ◌&&◌, true≢false, List, [], ◌∷◌, map, bytes_eq, Bor, Some, Result, IfOk}
use Rattle.std.proofs.lemmas.Result.{IfOk-weaker}
use Rattle.std.proofs.Math.Path.{fun_ext}
use Rattle.std.specs.Option.{option_map}
use Rattle.std.specs.List.{list_any, list_all, AllByRecursion, IsDistinct}
use Rattle.std.specs.Cmp.{on_equiv, IsEquivalence}
use Rattle.std.specs.Cmp.Lexicographic.{nat_list_eq_equiv}
use Rattle.std.specs.Map.{lookup, keys_of}
use Rattle.std.specs.HashMap as hash
use Rattle.std.specs.HashMap.{HashMap}
use Rattle.std.specs.HashSet as bag
use Rattle.std.specs.HashSet.{HashSet}
use Rattle.std.specs.declared.hash.FoldHasher.{FoldHasher}
use Rattle.std.specs.declared.hash.BuildHasherDefault.{BuildHasherDefault}
use Rattle.std.proofs.lemmas.Map.Made.{update_all_none}
use Rattle.cedar_syntax.specs.messages.Kept.{TokenName, is_among, is_in, friendly_of, are_distinct, table_texts}

abbrev pub same_text : Bor (List ℕ) → Bor (List ℕ) → Bool
same_text x y = bytes_eq x.now y.now

laws : IsEquivalence same_text
laws = on_equiv (λ x. x.now) nat_list_eq_equiv

abbrev at_name : TokenName → Bor (List ℕ)
at_name name = record { ref_ptr = (0, 0); now = name }

abbrev pub texts : List (Bor (List ℕ)) → List TokenName
texts names = map (λ name. name.now) names

among : (name : TokenName) (names : List (Bor (List ℕ))) → list_any (λ key. bytes_eq name key.now) names ≡ is_among (texts names) name
among name [] = refl
among name (x ∷ xs) = ap (λ b. bytes_eq name x.now || b) (among name xs)

set_rules : (names : List (Bor (List ℕ))) (set : HashSet (Bor (List ℕ)) (BuildHasherDefault FoldHasher)) → bag.IsFromIterResult same_text names set → is_in set ≡ is_among (texts names)
set_rules names set h = fun_ext (λ name. h.0 (at_name name) ∙ among name names)

-- ---- the map

pick : {A B : Type 0} (f : A → B) (b : Bool) (x y : A) → f (cond b x y) ≡ cond b (f x) (f y)
pick f true x y = refl
pick f false x y = refl

looked_up : (name : TokenName) (pairs : List (Bor (List ℕ) × Bor (List ℕ))) → option_map (λ shown. shown.now) (lookup (λ key. bytes_eq name key.now) pairs) ≡ lookup (bytes_eq name) (table_texts pairs)
looked_up name [] = refl
looked_up name (p ∷ ps) =
    pick (option_map (λ shown. shown.now)) (bytes_eq name p.0.now) (Some p.1) (lookup (λ key. bytes_eq name key.now) ps)
    ∙ ap (cond (bytes_eq name p.0.now) (Some p.1.now)) (looked_up name ps)

both : (a b : Bool) → (a && b) ≡ true → (a ≡ true) × (b ≡ true)
both true b h = (refl, h)
both false b h = absurd (true≢false (sym h))

denied : (b : Bool) → not b ≡ true → b ≡ false
denied true h = absurd (true≢false (sym h))
denied false h = refl

distinct : (names : List (Bor (List ℕ))) → are_distinct names ≡ true → IsDistinct same_text names
unfolding IsDistinct
distinct [] h = tt
distinct (x ∷ xs) h = let parts = both (list_all (λ y. not (same_text x y)) xs) (are_distinct xs) h in (apart xs parts.0, distinct xs parts.1)
  where
    apart : (ys : List (Bor (List ℕ))) → list_all (λ y. not (same_text x y)) ys ≡ true → AllByRecursion (λ y. same_text x y ≡ false) ys
    apart [] i = tt
    apart (y ∷ ys) i = let parts = both (not (same_text x y)) (list_all (λ z. not (same_text x z)) ys) i in (denied (same_text x y) parts.0, apart ys parts.1)

map_rules : (pairs : List (Bor (List ℕ) × Bor (List ℕ))) (table : HashMap (Bor (List ℕ)) (Bor (List ℕ)) (BuildHasherDefault FoldHasher)) → are_distinct (keys_of pairs) ≡ true
    → hash.IsFromIterResult same_text pairs table → friendly_of table ≡ (λ name. lookup (bytes_eq name) (table_texts pairs))
map_rules pairs table d h = fun_ext (λ name.
    ap (option_map (λ shown. shown.now)) (h.0 (at_name name) ∙ update_all_none laws same_text (λ x y. refl) pairs (at_name name) (distinct (keys_of pairs) d))
    ∙ looked_up name pairs)

pub made_rules : {E : Type 0} (pairs : List (Bor (List ℕ) × Bor (List ℕ))) (made : Result (HashMap (Bor (List ℕ)) (Bor (List ℕ)) (BuildHasherDefault FoldHasher)) E)
    → IfOk made (hash.IsFromIterResult same_text pairs) → are_distinct (keys_of pairs) ≡ true → IfOk made (λ table. friendly_of table ≡ (λ name. lookup (bytes_eq name) (table_texts pairs)))
made_rules pairs made h d = IfOk-weaker made _ _ (λ table. map_rules pairs table d) h

pub made_set : {E : Type 0} (names : List (Bor (List ℕ))) (made : Result (HashSet (Bor (List ℕ)) (BuildHasherDefault FoldHasher)) E)
    → IfOk made (bag.IsFromIterResult same_text names) → IfOk made (λ set. is_in set ≡ is_among (texts names))
made_set names made h = IfOk-weaker made _ _ (set_rules names) h

-- Annotations that are put into an object in the order of their keys.
use Rattle.std.proofs.Common.{◌≡◌, ℕ, List, [], ◌∷◌, ◌++◌, Bool, true, false, BTreeMap, String, Global, Ordering, Less, Equal, Greater, string_bytes, string_cmp, nat_cmp, refl, sym, ap, ◌∙◌, subst, append_assoc, append-nil}
use Rattle.std.specs.Prelude.{◌&&◌, T}
use Rattle.std.proofs.lemmas.Cmp.{nat_list_cmp_total}
use Rattle.std.specs.Cmp.Lexicographic.{slice_cmp}
use Rattle.std.specs.FinMap.{FinMap, entries, entries_sorted, is_sorted}
use Rattle.std.specs.FinMap.Entries.{below_all}
use Rattle.std.specs.Ordering.{is_lt, ordering_reverse}
use Rattle.std.specs.BTreeMap.{insert_entry}
use Rattle.cedar_policy_store.specs.declared.annotation.Annotation.{Annotation}
use Rattle.cedar_policy_store.specs.TextMap.{text_order}
use Rattle.serde_json.specs.Data.{string, object, member, put}
use Rattle.serde_json.specs.View.{view, members_view}
use Rattle.serde_json.specs.declared.value.Value.{Value, Object}
use Rattle.serde_json.proofs.Views.{Entry, view-Object, members_view-insert_entry}
use Rattle.cedar_tool.specs.Listed.{annotation_members, annotations_data}

abbrev pub Pair : Type 0
Pair = List ℕ × Annotation

left : (a b : Bool) → T (a && b) → T a
left true b h = tt
left false b h = absurd h

right : (a b : Bool) → T (a && b) → T b
right true b h = h
right false b h = absurd h

less : (o : Ordering) → T (is_lt o) → o ≡ Less
less Less h = refl
less Equal h = absurd h
less Greater h = absurd h

below : (x : List ℕ) (xs : List Pair) (e : Pair) (more : List Pair) → T (below_all text_order x (xs ++ e ∷ more)) → text_order x e.0 ≡ Less
below x [] e more h = less _ (left _ _ h)
below x (y ∷ xs) e more h = below x xs e more (right _ _ h)

-- a key that is above those before it goes last
put_last : (xs : List Pair) (e : Pair) (more : List Pair) → T (is_sorted text_order (xs ++ e ∷ more)) → put e.0 (string e.1.value) (annotation_members xs) ≡ annotation_members (xs ++ e ∷ [])
put_last [] e more h = refl
put_last (x ∷ xs) e more h =
    let above : slice_cmp nat_cmp e.0 x.0 ≡ Greater = nat_list_cmp_total.antisymm e.0 x.0 ∙ ap ordering_reverse (below x.0 xs e more (left _ _ h)) in
    rw above (ap (member x.0 (string x.1.value)) (put_last xs e more (right _ _ h)))

-- so one more annotation that is inserted stands behind the others
pub one_more : (es later : List Entry) (k : String Global) (v : Value) (xs : List Pair) (e : Pair) (more : List Pair) → T (is_sorted text_order (xs ++ e ∷ more)) → members_view es ≡ annotation_members xs
    → later ≡ insert_entry string_cmp es k v → string_bytes k ≡ e.0 → view v ≡ string e.1.value → members_view later ≡ annotation_members (xs ++ e ∷ [])
one_more es later k v xs e more sorted same inserted key value =
    ap members_view inserted ∙ (members_view-insert_entry es k v ∙ (rw (key, value, same) (put_last xs e more sorted)))

-- an iterator's next annotation is put in
pub next_done : (annotations : FinMap text_order Annotation) (rest later : List Pair) (e : Pair) (es after : List Entry) (k : String Global) (v : Value)
    → ((done : List Pair) × (entries annotations ≡ done ++ rest) × (members_view es ≡ annotation_members done)) → rest ≡ e ∷ later → after ≡ insert_entry string_cmp es k v → string_bytes k ≡ e.0 → view v ≡ string e.1.value
    → (done : List Pair) × (entries annotations ≡ done ++ later) × (members_view after ≡ annotation_members done)
next_done annotations rest later e es after k v (done, all, same) first inserted key value =
    let split : entries annotations ≡ done ++ (e ∷ later) = all ∙ ap (λ r. done ++ r) first in
    let sorted : T (is_sorted text_order (done ++ e ∷ later)) = subst (λ es. T (is_sorted text_order es)) split (entries_sorted annotations) in
    (done ++ (e ∷ []), split ∙ sym (append_assoc done (e ∷ []) later), one_more es after k v done e later sorted same inserted key value)

-- where it has none left all are put in
pub all_done : (annotations : FinMap text_order Annotation) (rest : List Pair) (m : BTreeMap (String Global) Value) → ((done : List Pair) × (entries annotations ≡ done ++ rest) × (members_view m.entries ≡ annotation_members done)) → rest ≡ []
    → view (Object m) ≡ annotations_data annotations
all_done annotations rest m (done, all, same) none =
    let whole : entries annotations ≡ done = all ∙ (ap (λ r. done ++ r) none ∙ append-nil done) in
    view-Object m ∙ ap object (same ∙ ap annotation_members (sym whole))

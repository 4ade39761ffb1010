-- Maps whose keys are texts, as contracts see them.
use Rattle.std.specs.Prelude.{ℕ, List, Bool, ◌&&◌, nat_eq}
use Rattle.std.specs.declared.cmp.Ordering.{Ordering}
use Rattle.std.specs.Ordering.{nat_cmp}
use Rattle.std.specs.Cmp.{IsEquivalence, on_equiv, and_equiv}
use Rattle.std.specs.Cmp.Lexicographic.{slice_cmp, pointwise, lists_equiv, nat_list_eq_equiv}
use Rattle.std.specs.FinMap.{FinMap, from_sorted, entries}
use Rattle.std.specs.BTreeMap.{BTreeMap}

-- the order of texts, byte by byte
abbrev pub text_order : List ℕ → List ℕ → Ordering
text_order = slice_cmp nat_cmp

-- the finite map that a tree of entries holds
abbrev pub map_in : {X : Type 0} → BTreeMap (List ℕ) X → FinMap text_order X
map_in m = from_sorted m.entries

-- two maps have the same keys, and at each the same value by a comparison
abbrev pub same_entry_by : {X : Type 0} → (X → X → Bool) → List ℕ × X → List ℕ × X → Bool
same_entry_by same p q = pointwise nat_eq p.0 q.0 && same p.1 q.1

abbrev pub same_map_by : {X : Type 0}
    → (X → X → Bool) → FinMap text_order X → FinMap text_order X → Bool
same_map_by same m n = pointwise (same_entry_by same) (entries m) (entries n)

-- such a comparison is lawful where that of the values is
pub same_map_by_equiv : {X : Type 0} {same : X → X → Bool}
    → IsEquivalence same → IsEquivalence (same_map_by same)
same_map_by_equiv e =
    on_equiv (λ m. entries m)
    (lists_equiv (and_equiv (on_equiv (λ e. e.0) nat_list_eq_equiv) (on_equiv (λ e. e.1) e)))

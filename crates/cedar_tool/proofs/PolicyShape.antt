-- The object of a policy has no float, and it isn't deep; so its line reads back.
use Rattle.std.proofs.Common.{◌≡◌, ◌≤◌, ℕ, suc, List, [], ◌∷◌, ◌++◌, Bool, false, Option, Some, None, map, codes, refl, sym, ap, ◌∙◌, subst, arith}
use Rattle.std.specs.Prelude.{◌||◌, max}
use Rattle.std.specs.FinMap.{entries}
use Rattle.std.proofs.Math.Nat.{max-le}
use Rattle.cedar_expressions.specs.declared.place.Slot.{Slot}
use Rattle.cedar_expressions.specs.Written.{slot_text}
use Rattle.cedar_policy_store.specs.declared.annotation.Annotation.{Annotation}
use Rattle.cedar_policy_store.specs.declared.template.Template.{Template}
use Rattle.cedar_policy_store.specs.TemplateSlots.{template_slots}
use Rattle.serde_json.specs.Data.{Data, string, depth, items_depth, members_depth}
use Rattle.serde_json.specs.View.{items_of}
use Rattle.serde_json.specs.Written.{has_float, items_have_float, members_have_float, compact_text}
use Rattle.serde_json.specs.Read.{read, max_depth}
use Rattle.cedar_report.specs.declared.finding.Extent.{Extent}
use Rattle.cedar_report.specs.JsonLines.{optional_range_data}
use Rattle.cedar_report.proofs.OneLine.{text_has_none}
use Rattle.cedar_tool.specs.Listed.{annotation_members, line_data, policy_extent, policy_data, IsJsonLine}

neither : (a b : Bool) → a ≡ false → b ≡ false → (a || b) ≡ false
neither a b p q = rw p q

annotations_float : (es : List (List ℕ × Annotation)) → members_have_float (annotation_members es) ≡ false
annotations_float [] = refl
annotations_float (e ∷ es) = annotations_float es

line_float : (extent : Option Extent) → has_float (line_data extent) ≡ false
line_float (Some extent) = refl
line_float None = refl

range_float : (extent : Option Extent) → has_float (optional_range_data extent) ≡ false
range_float (Some extent) = refl
range_float None = refl

slots_float : (slots : List Slot) → items_have_float (items_of (map (λ slot. string (slot_text slot.id)) slots)) ≡ false
slots_float [] = refl
slots_float (slot ∷ slots) = slots_float slots

no_float : (name text kind : List ℕ) (policy : Template) → has_float (policy_data name text kind policy) ≡ false
no_float name text kind policy =
    let extent = policy_extent text policy in
    neither _ _ (annotations_float (entries policy.annotations)) (neither _ _ refl (neither _ _ refl (neither _ _ refl
    (neither _ _ refl (neither _ _ (line_float extent) (neither _ _ (range_float extent)
    (neither _ _ (slots_float (template_slots policy)) refl)))))))

annotations_depth : (es : List (List ℕ × Annotation)) → members_depth (annotation_members es) ≤ 2
annotations_depth [] = omega arith
annotations_depth (e ∷ es) = max-le (omega arith) (annotations_depth es)

line_depth : (extent : Option Extent) → depth (line_data extent) ≤ 3
line_depth (Some extent) = omega arith
line_depth None = omega arith

range_depth : (extent : Option Extent) → depth (optional_range_data extent) ≤ 3
range_depth (Some extent) = omega arith
range_depth None = omega arith

slots_depth : (slots : List Slot) → items_depth (items_of (map (λ slot. string (slot_text slot.id)) slots)) ≤ 2
slots_depth [] = omega arith
slots_depth (slot ∷ slots) = max-le (omega arith) (slots_depth slots)

both : (a b : ℕ) → a ≤ 3 → b ≤ 3 → max a b ≤ 3
both a b h k = max-le h k

nought : 0 ≤ 3
nought = omega arith

inside : (n : ℕ) → n ≤ 2 → suc n ≤ 3
inside n h = omega arith

deeper : (n : ℕ) → n ≤ 3 → suc n ≤ max_depth
deeper n h = omega arith

is_shallow : (name text kind : List ℕ) (policy : Template) → depth (policy_data name text kind policy) ≤ max_depth
is_shallow name text kind policy =
    let extent = policy_extent text policy in
    deeper _ (both _ _ (inside _ (annotations_depth (entries policy.annotations))) (both 0 _ nought (both 0 _ nought (both 0 _ nought
    (both 0 _ nought (both _ _ (line_depth extent) (both _ _ (range_depth extent)
    (both _ 0 (inside _ (slots_depth (template_slots policy))) nought))))))))

-- what is written of a value that is the policy's, with a line feed behind it
pub line_is : (d : Data) (name text kind : List ℕ) (policy : Template) (written line : List ℕ) → d ≡ policy_data name text kind policy
    → (has_float d ≡ false → written ≡ compact_text d) → (depth d ≤ max_depth → read written ≡ Some d) → line ≡ written ++ codes "\n" → IsJsonLine (policy_data name text kind policy) line
line_is d name text kind policy written line e is reads feed =
    let p = policy_data name text kind policy in
    let T : Data → Type 0 = λ x. has_float x ≡ false → written ≡ compact_text x in
    let R : Data → Type 0 = λ x. depth x ≤ max_depth → read written ≡ Some x in
    let same : written ≡ compact_text p = subst T e is (no_float name text kind policy) in
    let back : read written ≡ Some p = subst R e reads (is_shallow name text kind policy) in
    record {
      is = feed ∙ ap (λ w. w ++ codes "\n") same;
      reads_back = ap read (sym same) ∙ back;
      one_line = text_has_none p;
    }

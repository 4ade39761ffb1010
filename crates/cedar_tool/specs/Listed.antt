-- What `list` writes of a set: each policy as a JSON object on a line, in the order of their
-- numbers. The fields of an object stand in byte order.
use Rattle.std.specs.Prelude.{◌≡◌, ℕ, zero, suc, List, [], ◌∷◌, ◌++◌, ◌+◌, ◌-◌, ◌^◌, min, map, Option, Some, None, codes}
use Rattle.std.specs.List.{AllByRecursion}
use Rattle.std.specs.Option.{option_map}
use Rattle.std.specs.FinMap.{FinMap, get, entries}
use Rattle.cedar_expressions.specs.declared.place.Place.{Place}
use Rattle.cedar_expressions.specs.declared.place.Slot.{Slot}
use Rattle.cedar_expressions.specs.Placed.{marked_place}
use Rattle.cedar_expressions.specs.Written.{slot_text}
use Rattle.cedar_policy_store.specs.declared.annotation.Annotation.{Annotation}
use Rattle.cedar_policy_store.specs.declared.template.Template.{Template}
use Rattle.cedar_policy_store.specs.PolicyMaps.{PolicyMaps}
use Rattle.cedar_policy_store.specs.PolicyText.{effect_text}
use Rattle.cedar_policy_store.specs.TemplateSlots.{template_slots}
use Rattle.cedar_policy_store.specs.TextMap.{text_order}
use Rattle.cedar_policy_conversion.specs.PolicyMeaning.{policy_id}
use Rattle.cedar_command.specs.PolicyLines.{set_size}
use Rattle.cedar_report.specs.declared.finding.Extent.{Extent}
use Rattle.cedar_report.specs.JsonLines.{optional_range_data}
use Rattle.cedar_report.specs.Spots.{spot_of}
use Rattle.serde_json.specs.Data.{Data, null, number, unsigned, string, array, object, Members, no_members, member}
use Rattle.serde_json.specs.Read.{read}
use Rattle.serde_json.specs.View.{items_of}
use Rattle.serde_json.specs.Written.{compact_text}

-- each annotation under its key
abbrev pub annotation_members : List (List ℕ × Annotation) → Members
annotation_members [] = no_members
annotation_members (e ∷ es) = member e.0 (string e.1.value) (annotation_members es)

abbrev pub annotations_data : FinMap text_order Annotation → Data
annotations_data annotations = object (annotation_members (entries annotations))

abbrev pub slots_data : List Slot → Data
slots_data slots = array (items_of (map (λ slot. string (slot_text slot.id)) slots))

-- where a place ends: no text has as many bytes as the largest number
abbrev pub place_end : Place → ℕ
place_end place = min (place.offset + place.length) (2 ^ 64 - 1)

-- the range of a place of a text, as that of a finding
abbrev pub place_extent : List ℕ → Place → Extent
place_extent text place = record {
  start = place.offset;
  end = place_end place;
  from = spot_of text place.offset;
  to = spot_of text (place_end place);
}

abbrev pub policy_extent : List ℕ → Template → Option Extent
policy_extent text policy = option_map (place_extent text) (marked_place policy.place)

-- the line on which a policy begins
abbrev pub line_data : Option Extent → Data
line_data None = null
line_data (Some extent) = number (unsigned extent.from.line)

-- a policy of this kind, in the text of this name
abbrev pub policy_data : List ℕ → List ℕ → List ℕ → Template → Data
policy_data name text kind policy = object
    (member (codes "annotations") (annotations_data policy.annotations)
    (member (codes "effect") (string (effect_text policy.effect))
    (member (codes "file") (string name)
    (member (codes "id") (string policy.id)
    (member (codes "kind") (string kind)
    (member (codes "line") (line_data (policy_extent text policy))
    (member (codes "range") (optional_range_data (policy_extent text policy))
    (member (codes "slots") (slots_data (template_slots policy)) no_members))))))))

-- the policy that a set has under a name: static, or a template
abbrev pub found_data : List ℕ → List ℕ → Option Template → Option Template → List Data
found_data name text (Some policy) template =
    policy_data name text (codes "static") policy ∷ []
found_data name text None (Some template) =
    policy_data name text (codes "template") template ∷ []
found_data name text None None = []

-- the policy of a number
abbrev pub numbered_data : List ℕ → List ℕ → PolicyMaps → ℕ → List Data
numbered_data name text set n =
    found_data name text (get set.policies (policy_id n))
    (get set.templates (policy_id n))

-- those of the first numbers
abbrev pub first_data : List ℕ → List ℕ → PolicyMaps → ℕ → List Data
first_data name text set zero = []
first_data name text set (suc n) =
    first_data name text set n ++ numbered_data name text set n

-- all of them
abbrev pub listed_data : List ℕ → List ℕ → PolicyMaps → List Data
listed_data name text set = first_data name text set (set_size set)

-- an object's line: it is written without white space and reads back as the object, and the one
-- line feed stands behind it
pub record IsJsonLine (policy : Data) (line : List ℕ) : Type 0 where
  pub is : line ≡ compact_text policy ++ codes "\n"
  pub reads_back : read (compact_text policy) ≡ Some policy
  pub one_line : AllByRecursion (λ byte. ¬ (byte ≡ 10)) (compact_text policy)

-- the lines of objects, one behind the other
pub data AreJsonLines : List Data → List ℕ → Type 0 where
  none : AreJsonLines [] []
  one_more : (objects : List Data) (object : Data) (lines line : List ℕ) →
      AreJsonLines objects lines → IsJsonLine object line →
      AreJsonLines (objects ++ (object ∷ [])) (lines ++ line)

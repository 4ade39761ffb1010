-- How private contracts see the program's templates, annotations and conditions: as those of which
-- the outcomes speak.
use Rattle.std.specs.Prelude.{◌≡◌, ℕ, List, [], map, Option, Bool, true, false, string_bytes}
use Rattle.std.specs.Option.{option_map}
use Rattle.std.specs.FinMap.{FinMap}
use Rattle.std.specs.declared.alloc.Global.{Global}
use Rattle.std.specs.declared.string.String.{String}
use Rattle.std.specs.declared.vec.Vec.{Vec}
use Rattle.cedar_expressions.specs.declared.expr.Expr.{Expr}
use Rattle.cedar_expressions.specs.declared.expr.UnaryCall.{UnaryCall}
use Rattle.cedar_expressions.specs.declared.expr.UnaryCall.TheVariants as unary
use Rattle.cedar_expressions.specs.declared.place.Slot.{Slot}
use Rattle.cedar_expressions.specs.Meaning.{unplaced}
use Rattle.cedar_expressions.specs.Value.{Value}
use Rattle.cedar_policy_store.specs.declared.annotation.Annotation.{Annotation}
use Rattle.cedar_policy_store.specs.declared.effect.Effect.{Effect}
use Rattle.cedar_policy_store.specs.declared.static_policy.UnexpectedSlotError.{UnexpectedSlotError}
use Rattle.cedar_policy_store.specs.declared.static_policy.UnexpectedSlotError.TheVariants.{FoundSlot}
use Rattle.cedar_policy_store.specs.declared.template.Template.{Template}
use Rattle.cedar_policy_store.specs.TemplateSlots.{condition_slots}
use Rattle.cedar_policy_store.specs.TextMap.{text_order}
use Rattle.cedar_syntax.specs.declared.loc.Loc.{Loc}
use Rattle.cedar_policy_conversion.specs.AnnotationKeys.{AnnotationContent, annotation_at}
use Rattle.cedar_policy_conversion.specs.Policies.{Given}
use Rattle.cedar_policy_conversion.specs.Scope.{Scope}

-- a call of one expression: `is` is one of them
abbrev pub is_call : UnaryCall → Bool
is_call (unary.Is entity_type) = true
is_call _ = false

-- the key and the text of an annotation at a place
abbrev pub pair_view : Option Loc → List ℕ × Option (String Global) → AnnotationContent
pair_view place p = annotation_at place (p.0, option_map string_bytes p.1)

-- what expressions mean
abbrev pub meanings : Vec Expr Global → List Value
meanings v = map unplaced v.items

-- effect and annotations, scope and conditions
abbrev pub parts_view : (Effect × FinMap text_order Annotation) × (Scope × Vec Expr Global) → Given
parts_view (head, (scope, conditions)) = (head, (scope, meanings conditions))

-- the slot that hinders a template from being a static policy
abbrev pub slot_of : UnexpectedSlotError → Slot
slot_of (FoundSlot slot) = slot

-- no slot stands in a template's condition
abbrev pub IsConditionFree : Template → Type 0
IsConditionFree t = condition_slots t.condition ≡ []

-- A template whose condition has no slot is static exactly if its scope has none.
use Rattle.std.proofs.Common.{◌≡◌, Bool, true, false, ◌||◌, List, [], ◌∷◌, ◌++◌, refl, true≢false}
use Rattle.cedar_expressions.specs.declared.atoms.SlotId.{SlotId}
use Rattle.cedar_expressions.specs.declared.atoms.SlotId.TheVariants.{Principal, Resource}
use Rattle.cedar_expressions.specs.declared.place.Slot.{Slot}
use Rattle.cedar_policy_store.specs.declared.constraints.EntityReference.{EntityReference}
use Rattle.cedar_policy_store.specs.declared.constraints.EntityReference.TheVariants as reference
use Rattle.cedar_policy_store.specs.declared.constraints.PrincipalOrResourceConstraint.{PrincipalOrResourceConstraint}
use Rattle.cedar_policy_store.specs.declared.constraints.PrincipalOrResourceConstraint.TheVariants as constraint
use Rattle.cedar_policy_store.specs.declared.template.Template.{Template}
use Rattle.cedar_policy_store.specs.PlaceFree.{asks_for_slot, constraint_meaning, is_own_slot, reference_meaning, has_slot_in_scope, template_meaning}
use Rattle.cedar_policy_store.specs.TemplateSlots.{reference_slot, constraint_slot, at_most_one, condition_slots, template_slots}

-- a list is empty exactly where the test fails
abbrev Empty : List Slot → Bool → Type 0
Empty xs b = (xs ≡ [] → b ≡ false) × (b ≡ false → xs ≡ [])

of_reference : (id : SlotId) (r : EntityReference) → Empty (at_most_one (reference_slot id r)) (is_own_slot (reference_meaning r))
of_reference id (reference.EUID one) = (λ e. refl, λ e. refl)
of_reference id (reference.Slot mark) = (λ e. cc, λ e. absurd (true≢false e))

of_constraint : (id : SlotId) (c : PrincipalOrResourceConstraint) → Empty (at_most_one (constraint_slot id c)) (asks_for_slot (constraint_meaning c))
of_constraint id constraint.Any = (λ e. refl, λ e. refl)
of_constraint id (constraint.Eq r) = of_reference id r
of_constraint id (constraint.In r) = of_reference id r
of_constraint id (constraint.Is t) = (λ e. refl, λ e. refl)
of_constraint id (constraint.IsIn t r) = of_reference id r

left_empty : (xs ys : List Slot) → xs ++ ys ≡ [] → xs ≡ []
left_empty [] ys e = refl
left_empty (x ∷ xs) ys e = cc

right_empty : (xs ys : List Slot) → xs ++ ys ≡ [] → ys ≡ []
right_empty [] ys e = e
right_empty (x ∷ xs) ys e = cc

left_false : (a b : Bool) → (a || b) ≡ false → a ≡ false
left_false true b e = e
left_false false b e = refl

right_false : (a b : Bool) → (a || b) ≡ false → b ≡ false
right_false true b e = absurd (true≢false e)
right_false false b e = e

neither : (xs ys zs : List Slot) (a b : Bool) → zs ≡ [] → Empty xs a → Empty ys b → Empty (xs ++ (ys ++ zs)) (a || b)
neither xs ys zs a b none p q = (
  λ e i. p.0 (left_empty xs (ys ++ zs) e) i || q.0 (left_empty ys zs (right_empty xs (ys ++ zs) e)) i,
  λ e i. p.1 (left_false a b e) i ++ (q.1 (right_false a b e) i ++ none i),
)

pub static_by_scope : (t : Template) → condition_slots t.condition ≡ [] → Empty (template_slots t) (has_slot_in_scope (template_meaning t))
static_by_scope t none =
    neither
    (at_most_one (constraint_slot Principal t.principal.constraint))
    (at_most_one (constraint_slot Resource t.resource.constraint))
    (condition_slots t.condition)
    (asks_for_slot (constraint_meaning t.principal.constraint))
    (asks_for_slot (constraint_meaning t.resource.constraint))
    none
    (of_constraint Principal t.principal.constraint)
    (of_constraint Resource t.resource.constraint)

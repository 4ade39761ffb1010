-- The slots of a template: the principal's, the resource's, and then those of the condition.
use Rattle.std.specs.Prelude.{List, [], ◌∷◌, ◌++◌, Option, None, Some}
use Rattle.cedar_expressions.specs.declared.atoms.SlotId.{SlotId}
use Rattle.cedar_expressions.specs.declared.atoms.SlotId.TheVariants.{Principal, Resource}
use Rattle.cedar_expressions.specs.declared.place.Slot.{Slot}
use Rattle.cedar_expressions.specs.declared.expr.Expr.{Expr}
use Rattle.cedar_expressions.specs.Placed.{marked_place}
use Rattle.cedar_expressions.specs.Slots.{slots_in}
use Rattle.cedar_policy_store.specs.declared.constraints.EntityReference.{EntityReference}
use Rattle.cedar_policy_store.specs.declared.constraints.EntityReference.TheVariants as reference
use Rattle.cedar_policy_store.specs.declared.constraints.PrincipalOrResourceConstraint.{PrincipalOrResourceConstraint}
use Rattle.cedar_policy_store.specs.declared.constraints.PrincipalOrResourceConstraint.TheVariants as constraint
use Rattle.cedar_policy_store.specs.declared.template.Template.{Template}

-- the slot that a reference is, in a constraint of this slot's variable
abbrev pub reference_slot : SlotId → EntityReference → Option Slot
reference_slot id (reference.EUID entity) = None
reference_slot id (reference.Slot mark) = Some (record { id = id; place = marked_place mark })

-- the slot of a constraint of this slot's variable
abbrev pub constraint_slot : SlotId → PrincipalOrResourceConstraint → Option Slot
constraint_slot id constraint.Any = None
constraint_slot id (constraint.Eq one) = reference_slot id one
constraint_slot id (constraint.In one) = reference_slot id one
constraint_slot id (constraint.Is entity_type) = None
constraint_slot id (constraint.IsIn entity_type one) = reference_slot id one

abbrev pub at_most_one : Option Slot → List Slot
at_most_one None = []
at_most_one (Some slot) = slot ∷ []

abbrev pub condition_slots : Option Expr → List Slot
condition_slots None = []
condition_slots (Some condition) = slots_in condition

abbrev pub template_slots : Template → List Slot
template_slots t =
    at_most_one (constraint_slot Principal t.principal.constraint)
    ++ (at_most_one (constraint_slot Resource t.resource.constraint)
    ++ condition_slots t.condition)

-- Policies made of a template, by entities in the place of its slots.
use Rattle.std.specs.Prelude.{◌≡◌, ℕ, List, Bool, true, false, Option, Some, None, is_some}
use Rattle.std.specs.Option.{option_map}
use Rattle.std.specs.List.{list_any}
use Rattle.std.specs.FinMap as map
use Rattle.cedar_expressions.specs.declared.atoms.SlotId.{SlotId}
use Rattle.cedar_expressions.specs.declared.atoms.SlotId.TheVariants.{Principal, Resource}
use Rattle.cedar_expressions.specs.declared.place.Slot.{Slot}
use Rattle.cedar_expressions.specs.declared.entity.EntityUID.{EntityUID}
use Rattle.cedar_expressions.specs.declared.slot_entities.SlotEntities.{SlotEntities}
use Rattle.cedar_expressions.specs.Copies.{copied}
use Rattle.cedar_expressions.specs.Filled.{entity_for, filled}
use Rattle.cedar_expressions.specs.Meaning.{expr_meaning}
use Rattle.cedar_expressions.specs.Placed.{marked_place}
use Rattle.cedar_policy_store.specs.declared.constraints.EntityReference.{EntityReference}
use Rattle.cedar_policy_store.specs.declared.constraints.EntityReference.TheVariants as reference
use Rattle.cedar_policy_store.specs.declared.constraints.PrincipalOrResourceConstraint.{PrincipalOrResourceConstraint}
use Rattle.cedar_policy_store.specs.declared.constraints.PrincipalOrResourceConstraint.TheVariants as constraint
use Rattle.cedar_policy_store.specs.declared.link.LinkError.{LinkError}
use Rattle.cedar_policy_store.specs.declared.link.LinkError.TheVariants.{Memory, NoSuchTemplate, Occupied, NoEntity, NoSlot}
use Rattle.cedar_policy_store.specs.declared.template.Template.{Template}
use Rattle.cedar_policy_store.specs.PolicyMaps.{PolicyMaps, holds_id}
use Rattle.cedar_policy_store.specs.TemplateSlots.{template_slots}

-- a reference and a constraint with the entity of the variable's slot in its place
abbrev pub reference_with : Option EntityUID → EntityReference → EntityReference
reference_with entity (reference.EUID own) = reference.EUID own
reference_with (Some entity) (reference.Slot mark) = reference.EUID entity
reference_with None (reference.Slot mark) = reference.Slot mark

abbrev pub constraint_with : Option EntityUID
    → PrincipalOrResourceConstraint → PrincipalOrResourceConstraint
constraint_with entity constraint.Any = constraint.Any
constraint_with entity (constraint.Eq one) = constraint.Eq (reference_with entity one)
constraint_with entity (constraint.In one) = constraint.In (reference_with entity one)
constraint_with entity (constraint.Is entity_type) = constraint.Is entity_type
constraint_with entity (constraint.IsIn entity_type one) =
    constraint.IsIn entity_type (reference_with entity one)

-- the template under a name, with entities in the place of its slots: each part with the entities
-- there, places as they were, and what the condition means then
pub record IsFilled (t : Template) (id : List ℕ) (es : SlotEntities) (policy : Template)
    : Type 0 where
  pub named : policy.id ≡ id
  pub place : marked_place policy.place ≡ marked_place t.place
  pub annotations : policy.annotations ≡ t.annotations
  pub effect : policy.effect ≡ t.effect
  pub principal : policy.principal.constraint ≡ constraint_with es.principal t.principal.constraint
  pub action : policy.action ≡ t.action
  pub resource : policy.resource.constraint ≡ constraint_with es.resource t.resource.constraint
  pub condition : policy.condition ≡ option_map (copied es) t.condition
  pub meaning : option_map expr_meaning policy.condition
      ≡ option_map (λ e. filled es (expr_meaning e)) t.condition

-- whether a slot stands among some
abbrev pub is_same_slot : SlotId → SlotId → Bool
is_same_slot Principal Principal = true
is_same_slot Principal Resource = false
is_same_slot Resource Principal = false
is_same_slot Resource Resource = true

abbrev pub among_slots : SlotId → List Slot → Bool
among_slots id slots = list_any (λ slot. is_same_slot id slot.id) slots

-- an entity is given for a slot exactly if it stands among these
abbrev pub Fits : List Slot → SlotEntities → SlotId → Type 0
Fits slots es id = among_slots id slots ≡ is_some (entity_for es id)

-- the policy that a template becomes, each of whose slots has an entity, and no other has one
abbrev pub IsLinked : Template → List ℕ → SlotEntities → Template → Type 0
IsLinked t id es policy =
    IsFilled t id es policy
    × Fits (template_slots t) es Principal × Fits (template_slots t) es Resource

-- the refusal of a slot that doesn't fit
abbrev pub IsMisfit : List Slot → SlotEntities → SlotId → LinkError → Type 0
IsMisfit slots es id (Memory _) = ⊥
IsMisfit slots es id (NoSuchTemplate _) = ⊥
IsMisfit slots es id (Occupied _) = ⊥
IsMisfit slots es id (NoEntity other) =
    (other ≡ id) × (among_slots id slots ≡ true) × (entity_for es id ≡ None)
IsMisfit slots es id (NoSlot other) =
    (other ≡ id) × (among_slots id slots ≡ false) × (is_some (entity_for es id) ≡ true)

-- of a template's slots the first that doesn't fit is refused: the principal's before the
-- resource's
abbrev pub FitBefore : List Slot → SlotEntities → SlotId → Type 0
FitBefore slots es Principal = Unit {0}
FitBefore slots es Resource = Fits slots es Principal

abbrev pub IsFirstMisfit : List Slot → SlotEntities → SlotId → LinkError → Type 0
IsFirstMisfit slots es id error = FitBefore slots es id × IsMisfit slots es id error

abbrev pub IsSlotRefusal : Template → SlotEntities → LinkError → Type 0
IsSlotRefusal t es (Memory _) = Unit {0}
IsSlotRefusal t es (NoSuchTemplate _) = ⊥
IsSlotRefusal t es (Occupied _) = ⊥
IsSlotRefusal t es (NoEntity id) = IsFirstMisfit (template_slots t) es id (NoEntity id)
IsSlotRefusal t es (NoSlot id) = IsFirstMisfit (template_slots t) es id (NoSlot id)

-- the set with the policy that the template of a name becomes, under a name of its own
abbrev pub SetWithLinked : PolicyMaps → List ℕ → List ℕ → SlotEntities → PolicyMaps → Type 0
SetWithLinked old template id es new =
    (t : Template) × (policy : Template) × (map.get old.templates template ≡ Some t)
    × (holds_id old id ≡ false) × IsLinked t id es policy
    × (new ≡ record old { policies = map.insert old.policies id policy })

-- when each refusal comes: no template has the name; else a policy or a template has the new one;
-- else a slot of the template doesn't fit
abbrev pub Refused : PolicyMaps → List ℕ → List ℕ → SlotEntities → LinkError → Type 0
Refused old template id es error =
    (holds_id old id ≡ false)
    × ((t : Template) × (map.get old.templates template ≡ Some t) × IsSlotRefusal t es error)

abbrev pub IsLinkRefusal : PolicyMaps → List ℕ → List ℕ → SlotEntities → LinkError → Type 0
IsLinkRefusal old template id es (Memory _) = Unit {0}
IsLinkRefusal old template id es (NoSuchTemplate other) =
    (other ≡ template) × (map.get old.templates template ≡ None)
IsLinkRefusal old template id es (Occupied other) =
    (other ≡ id) × (holds_id old id ≡ true) × (is_some (map.get old.templates template) ≡ true)
IsLinkRefusal old template id es (NoEntity slot) = Refused old template id es (NoEntity slot)
IsLinkRefusal old template id es (NoSlot slot) = Refused old template id es (NoSlot slot)

-- What templates and policy sets mean: their parts, places aside. Two of them are the same up to
-- places where these values are equal.
use Rattle.std.specs.Prelude.{ℕ, List, map, Option, Bool, true, false, ◌||◌}
use Rattle.std.specs.Option.{option_map}
use Rattle.std.specs.FinMap.{FinMap, from_sorted, entries}
use Rattle.cedar_expressions.specs.declared.entity.EntityType.{EntityType}
use Rattle.cedar_expressions.specs.declared.entity.EntityUID.{EntityUID}
use Rattle.cedar_expressions.specs.Value.{Value}
use Rattle.cedar_expressions.specs.Meaning.{unplaced}
use Rattle.cedar_policy_store.specs.declared.annotation.Annotation.{Annotation}
use Rattle.cedar_policy_store.specs.declared.effect.Effect.{Effect}
use Rattle.cedar_policy_store.specs.declared.constraints.EntityReference.{EntityReference}
use Rattle.cedar_policy_store.specs.declared.constraints.EntityReference.TheVariants.{EUID, Slot}
use Rattle.cedar_policy_store.specs.declared.constraints.PrincipalOrResourceConstraint.{PrincipalOrResourceConstraint}
use Rattle.cedar_policy_store.specs.declared.constraints.PrincipalOrResourceConstraint.TheVariants.{Any, Eq, In, Is, IsIn}
use Rattle.cedar_policy_store.specs.declared.constraints.ActionConstraint.{ActionConstraint}
use Rattle.cedar_policy_store.specs.declared.template.Template.{Template}
use Rattle.cedar_policy_store.specs.PolicyMaps.{PolicyMaps}
use Rattle.cedar_policy_store.specs.TextMap.{text_order}

-- an entity, or the slot of the variable that the constraint is of
pub data Reference : Type 0 where
  entity : EntityUID → Reference
  own_slot : Reference

-- what is asked of a principal or a resource
pub data Constraint : Type 0 where
  any : Constraint
  equal_to : Reference → Constraint
  inside : Reference → Constraint
  typed : EntityType → Constraint
  typed_inside : EntityType → Reference → Constraint

-- a template's parts; no place stands in its action's constraint
pub record Policy : Type 0 where
  pub id : List ℕ
  pub annotations : FinMap text_order (List ℕ)
  pub effect : Effect
  pub principal : Constraint
  pub action : ActionConstraint
  pub resource : Constraint
  pub condition : Option Value

-- the static policies and the templates of a set, by name
pub record Policies : Type 0 where
  pub policies : FinMap text_order Policy
  pub templates : FinMap text_order Policy

-- whether the scope has a slot
abbrev pub is_own_slot : Reference → Bool
is_own_slot (entity one) = false
is_own_slot own_slot = true

abbrev pub asks_for_slot : Constraint → Bool
asks_for_slot any = false
asks_for_slot (equal_to reference) = is_own_slot reference
asks_for_slot (inside reference) = is_own_slot reference
asks_for_slot (typed entity_type) = false
asks_for_slot (typed_inside entity_type reference) = is_own_slot reference

abbrev pub has_slot_in_scope : Policy → Bool
has_slot_in_scope policy = asks_for_slot policy.principal || asks_for_slot policy.resource

-- a map with another value at each key
abbrev pub at_value : {X Y : Type 0} → (X → Y) → List ℕ × X → List ℕ × Y
at_value f e = (e.0, f e.1)

abbrev pub with_values : {X Y : Type 0} → (X → Y) → FinMap text_order X → FinMap text_order Y
with_values f m = from_sorted (map (at_value f) (entries m))

abbrev pub reference_meaning : EntityReference → Reference
reference_meaning (EUID one) = entity one
reference_meaning (Slot mark) = own_slot

abbrev pub constraint_meaning : PrincipalOrResourceConstraint → Constraint
constraint_meaning Any = any
constraint_meaning (Eq reference) = equal_to (reference_meaning reference)
constraint_meaning (In reference) = inside (reference_meaning reference)
constraint_meaning (Is entity_type) = typed entity_type
constraint_meaning (IsIn entity_type reference) =
    typed_inside entity_type (reference_meaning reference)

abbrev pub annotation_value : Annotation → List ℕ
annotation_value annotation = annotation.value

abbrev pub template_meaning : Template → Policy
template_meaning t = record {
  id = t.id;
  annotations = with_values annotation_value t.annotations;
  effect = t.effect;
  principal = constraint_meaning t.principal.constraint;
  action = t.action;
  resource = constraint_meaning t.resource.constraint;
  condition = option_map unplaced t.condition;
}

abbrev pub set_meaning : PolicyMaps → Policies
set_meaning set = record {
  policies = with_values template_meaning set.policies;
  templates = with_values template_meaning set.templates;
}

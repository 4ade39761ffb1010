-- How policies and their parts are written. A scope and annotations are written as Cedar has them,
-- an id as its text, a condition as `Shown` has an expression; all else but an effect's word and
-- what a refusal says is this repository's own (docs/DECISIONS.md).
use Rattle.std.specs.Prelude.{ℕ, List, ◌++◌, codes, map, Option, None, Some}
use Rattle.std.specs.Fmt.{decimal}
use Rattle.std.specs.FinMap.{FinMap, len, entries}
use Rattle.std.specs.List.{flat_map}
use Rattle.cedar_expressions.specs.Path.{name_text}
use Rattle.cedar_expressions.specs.Shown.{comma_separated, each_behind_comma, string_text, expr_text}
use Rattle.cedar_expressions.specs.Written.{entity_text, slot_text, var_text}
use Rattle.cedar_expressions.specs.declared.atoms.SlotId.{SlotId}
use Rattle.cedar_expressions.specs.declared.atoms.SlotId.TheVariants as slots
use Rattle.cedar_expressions.specs.declared.atoms.Var.{Var}
use Rattle.cedar_expressions.specs.declared.atoms.Var.TheVariants as var
use Rattle.cedar_expressions.specs.declared.entity.EntityUID.{EntityUID}
use Rattle.cedar_expressions.specs.declared.expr.Expr.{Expr}
use Rattle.cedar_policy_store.specs.declared.annotation.Annotation.{Annotation}
use Rattle.cedar_policy_store.specs.declared.effect.Effect.{Effect}
use Rattle.cedar_policy_store.specs.declared.effect.Effect.TheVariants.{Permit, Forbid}
use Rattle.cedar_policy_store.specs.declared.constraints.EntityReference.{EntityReference}
use Rattle.cedar_policy_store.specs.declared.constraints.EntityReference.TheVariants.{EUID, Slot}
use Rattle.cedar_policy_store.specs.declared.constraints.PrincipalOrResourceConstraint.{PrincipalOrResourceConstraint}
use Rattle.cedar_policy_store.specs.declared.constraints.PrincipalOrResourceConstraint.TheVariants.{Any, Eq, In, Is, IsIn}
use Rattle.cedar_policy_store.specs.declared.constraints.PrincipalConstraint.{PrincipalConstraint}
use Rattle.cedar_policy_store.specs.declared.constraints.ResourceConstraint.{ResourceConstraint}
use Rattle.cedar_policy_store.specs.declared.constraints.ActionConstraint.{ActionConstraint}
use Rattle.cedar_policy_store.specs.declared.constraints.ActionConstraint.TheVariants as action
use Rattle.cedar_policy_store.specs.declared.template.Template.{Template}
use Rattle.cedar_policy_store.specs.declared.static_policy.UnexpectedSlotError.{UnexpectedSlotError}
use Rattle.cedar_policy_store.specs.declared.static_policy.UnexpectedSlotError.TheVariants.{FoundSlot}
use Rattle.cedar_policy_store.specs.declared.static_policy.NotStatic.{NotStatic}
use Rattle.cedar_policy_store.specs.declared.static_policy.NotStatic.TheVariants as reasons
use Rattle.cedar_policy_store.specs.declared.policy_set.PolicySetError.{PolicySetError}
use Rattle.cedar_policy_store.specs.declared.policy_set.PolicySetError.TheVariants.{Memory, Occupied}
use Rattle.cedar_policy_store.specs.declared.link.LinkError.{LinkError}
use Rattle.cedar_policy_store.specs.declared.link.LinkError.TheVariants as unlinked
use Rattle.cedar_policy_store.specs.PolicyMaps.{PolicyMaps}
use Rattle.cedar_policy_store.specs.TextMap.{text_order}

abbrev pub effect_text : Effect → List ℕ
effect_text Permit = codes "permit"
effect_text Forbid = codes "forbid"

-- an annotation with its key, as it may be written, and a space behind it
abbrev pub annotation_text : List ℕ × Annotation → List ℕ
annotation_text entry =
    codes "@" ++ (entry.0 ++ (codes "(" ++ (string_text entry.1.value ++ codes ") ")))

abbrev pub annotations_text : FinMap text_order Annotation → List ℕ
annotations_text annotations = flat_map annotation_text (entries annotations)

-- a reference alone, and a constraint alone, don't know whose slot it is
abbrev pub reference_text : EntityReference → List ℕ
reference_text (EUID entity) = entity_text entity
reference_text (Slot mark) = codes "?"

abbrev pub constraint_text : PrincipalOrResourceConstraint → List ℕ
constraint_text Any = codes "any"
constraint_text (Eq reference) = codes "== " ++ reference_text reference
constraint_text (In reference) = codes "in " ++ reference_text reference
constraint_text (Is entity_type) = codes "is " ++ name_text entity_type.name
constraint_text (IsIn entity_type reference) =
    codes "is " ++ (name_text entity_type.name ++ (codes " in " ++ reference_text reference))

-- in a scope: the variable, and what is asked of it
abbrev pub slot_variable : SlotId → Var
slot_variable slots.Principal = var.Principal
slot_variable slots.Resource = var.Resource

abbrev pub slotted_text : SlotId → EntityReference → List ℕ
slotted_text id (EUID entity) = entity_text entity
slotted_text id (Slot mark) = slot_text id

abbrev pub asked_of_text : SlotId → PrincipalOrResourceConstraint → List ℕ
asked_of_text id Any = var_text (slot_variable id)
asked_of_text id (Eq reference) =
    var_text (slot_variable id) ++ (codes " == " ++ slotted_text id reference)
asked_of_text id (In reference) =
    var_text (slot_variable id) ++ (codes " in " ++ slotted_text id reference)
asked_of_text id (Is entity_type) =
    var_text (slot_variable id) ++ (codes " is " ++ name_text entity_type.name)
asked_of_text id (IsIn entity_type reference) =
    var_text (slot_variable id)
    ++ (codes " is "
    ++ (name_text entity_type.name ++ (codes " in " ++ slotted_text id reference)))

abbrev pub principal_text : PrincipalConstraint → List ℕ
principal_text principal = asked_of_text slots.Principal principal.constraint

abbrev pub resource_text : ResourceConstraint → List ℕ
resource_text resource = asked_of_text slots.Resource resource.constraint

abbrev pub more_entities_text : List EntityUID → List ℕ
more_entities_text entities = each_behind_comma (map entity_text entities)

abbrev pub action_text : ActionConstraint → List ℕ
action_text action.Any = codes "action"
action_text (action.Eq entity) = codes "action == " ++ entity_text entity
action_text (action.In entities) =
    codes "action in [" ++ (comma_separated (map entity_text entities) ++ codes "]")

-- the name, the annotations and the effect, then what is asked
abbrev pub scope_text : Template → List ℕ
scope_text t =
    principal_text t.principal
    ++ (codes ", "
    ++ (action_text t.action ++ (codes ", " ++ (resource_text t.resource ++ codes ")"))))

abbrev pub asked_text : Template → Option Expr → List ℕ
asked_text t None = scope_text t
asked_text t (Some condition) = scope_text t ++ (codes " when " ++ expr_text condition)

abbrev pub template_text : Template → List ℕ
template_text t =
    (t.id
    ++ (codes ": "
    ++ (annotations_text t.annotations ++ (effect_text t.effect ++ codes "("))))
    ++ asked_text t t.condition

abbrev pub set_text : PolicyMaps → List ℕ
set_text set =
    decimal (len set.policies)
    ++ (codes " static policies, " ++ (decimal (len set.templates) ++ codes " templates"))

abbrev pub unexpected_slot_text : UnexpectedSlotError → List ℕ
unexpected_slot_text (FoundSlot slot) =
    codes "found slot `" ++ (slot_text slot.id ++ codes "` where slots are not allowed")

abbrev pub not_static_text : NotStatic → List ℕ
not_static_text (reasons.Memory want) = codes "want of memory"
not_static_text (reasons.UnexpectedSlot error) = unexpected_slot_text error

abbrev pub set_error_text : PolicySetError → List ℕ
set_error_text (Memory want) = codes "want of memory"
set_error_text (Occupied id) = codes "duplicate template or policy id `" ++ (id ++ codes "`")

abbrev pub link_error_text : LinkError → List ℕ
link_error_text (unlinked.Memory want) = codes "want of memory"
link_error_text (unlinked.NoSuchTemplate id) =
    codes "no template has the id `" ++ (id ++ codes "`")
link_error_text (unlinked.Occupied id) =
    codes "duplicate template or policy id `" ++ (id ++ codes "`")
link_error_text (unlinked.NoEntity slot) =
    codes "no entity for the slot `" ++ (slot_text slot ++ codes "`")
link_error_text (unlinked.NoSlot slot) =
    codes "the template has no slot `" ++ (slot_text slot ++ codes "`")

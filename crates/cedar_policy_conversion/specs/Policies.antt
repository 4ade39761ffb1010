-- Policies and sets of them: what their trees give, templates, static policies and sets with their
-- places, or faults. The rules are those of Cedar's `to_policy_template`, `to_policy_or_template`,
-- `to_policy` and `to_policyset`.
use Rattle.std.specs.Prelude.{ℕ, suc, ◌+◌, ◌^◌, nat_lt, List, [], ◌∷◌, ◌++◌, map, filter, fold, Option, Some, Ok, Err, Bool, true, false, if◌then◌else◌}
use Rattle.std.specs.Option.{option_map}
use Rattle.either.specs.declared.Either.{Either}
use Rattle.either.specs.declared.Either.TheVariants.{Left, Right}
use Rattle.std.specs.FinMap.{FinMap, empty, insert}
use Rattle.cedar_expressions.specs.declared.place.Place.{Place}
use Rattle.cedar_expressions.specs.declared.place.Slot.{Slot}
use Rattle.cedar_expressions.specs.declared.atoms.SlotId.TheVariants as ids
use Rattle.cedar_expressions.specs.Meaning.{unplaced}
use Rattle.cedar_expressions.specs.Placed.{marked_place}
use Rattle.cedar_expressions.specs.Value.{Value}
use Rattle.cedar_policy_store.specs.declared.annotation.Annotation.{Annotation}
use Rattle.cedar_policy_store.specs.declared.constraints.ActionConstraint.{ActionConstraint}
use Rattle.cedar_policy_store.specs.declared.constraints.PrincipalConstraint.{PrincipalConstraint}
use Rattle.cedar_policy_store.specs.declared.constraints.ResourceConstraint.{ResourceConstraint}
use Rattle.cedar_policy_store.specs.declared.effect.Effect.{Effect}
use Rattle.cedar_policy_store.specs.declared.effect.Effect.TheVariants as effects
use Rattle.cedar_policy_store.specs.declared.template.Template.{Template}
use Rattle.cedar_policy_store.specs.PlaceFree as free
use Rattle.cedar_policy_store.specs.PlaceFree.{annotation_value, constraint_meaning, has_slot_in_scope, set_meaning, with_values}
use Rattle.cedar_policy_store.specs.PolicyMaps.{PolicyMaps}
use Rattle.cedar_policy_store.specs.TemplateSlots.{constraint_slot, at_most_one}
use Rattle.cedar_policy_store.specs.TextMap.{text_order}
use Rattle.cedar_syntax.specs.declared.cst.Annotation.{Annotation as AnnotationTree}
use Rattle.cedar_syntax.specs.declared.cst.Ident.{Ident}
use Rattle.cedar_syntax.specs.declared.cst.Ident.TheVariants as words
use Rattle.cedar_syntax.specs.declared.cst.Policies.{Policies}
use Rattle.cedar_syntax.specs.declared.cst.Policy.{Policy}
use Rattle.cedar_syntax.specs.declared.cst.Policy.TheVariants as trees
use Rattle.cedar_syntax.specs.declared.cst.PolicyImpl.{PolicyImpl}
use Rattle.cedar_syntax.specs.declared.loc.Loc.{Loc}
use Rattle.cedar_syntax.specs.declared.node.Node.{Node}
use Rattle.cedar_policy_conversion.specs.AnnotationKeys.{annotations_outcome, annotation_map}
use Rattle.cedar_policy_conversion.specs.Conditions.{conditions_outcome}
use Rattle.cedar_conversion.specs.outcome.Places.{bytes_at, bytes_of}
use Rattle.cedar_conversion.specs.outcome.Conversion.{with_first}
use Rattle.cedar_conversion.specs.strict.Extensions.{Extensions}
use Rattle.cedar_conversion.specs.parts.Names.{content_outcome}
use Rattle.cedar_conversion.specs.outcome.Detail as detail
use Rattle.cedar_conversion.specs.outcome.Outcome.{Kind, NamedFault, Outcome, detailed_outcome, both, next, invalid_effect, expected_static_policy, slots_in_condition_clause}
use Rattle.cedar_policy_conversion.specs.PolicyMeaning.{no_policies, policy_id, with_policy, joint_condition}
use Rattle.cedar_policy_conversion.specs.Scope.{Scope, scope_outcome}

-- ---- a policy

abbrev pub effect_of : Option Loc → Ident → Outcome Effect
effect_of place words.Permit = Ok effects.Permit
effect_of place words.Forbid = Ok effects.Forbid
effect_of place i = detailed_outcome invalid_effect place (detail.word i)

abbrev pub effect_outcome : Node (Option Ident) → Outcome Effect
effect_outcome n = next (content_outcome n.loc n.node) (effect_of n.loc)

-- a template's parts with their places, but those inside its condition
pub record TemplateParts : Type 0 where
  pub id : List ℕ
  pub place : Option Place
  pub annotations : FinMap text_order Annotation
  pub effect : Effect
  pub principal : PrincipalConstraint
  pub action : ActionConstraint
  pub resource : ResourceConstraint
  pub condition : Option Value

abbrev pub template_parts : Template → TemplateParts
template_parts t = record {
  id = t.id;
  place = marked_place t.place;
  annotations = t.annotations;
  effect = t.effect;
  principal = t.principal;
  action = t.action;
  resource = t.resource;
  condition = option_map unplaced t.condition;
}

-- effect and annotations, scope and conditions
abbrev pub Given : Type 0
Given = (Effect × FinMap text_order Annotation) × (Scope × List Value)

abbrev pub given_parts : List ℕ → Option Loc → Given → TemplateParts
given_parts id place ((effect, annotations), ((principal, action, resource), conditions)) =
    record {
      id = id;
      place = option_map bytes_of place;
      annotations = annotations;
      effect = effect;
      principal = principal;
      action = action;
      resource = resource;
      condition = joint_condition conditions;
    }

-- the annotations as a policy keeps them
abbrev pub kept_outcome : List (Node (Option AnnotationTree))
    → Outcome (FinMap text_order Annotation)
kept_outcome ns = next (annotations_outcome ns) (λ all. Ok (annotation_map all))

-- effect, annotations, scope and conditions joined
abbrev pub parts_outcome : Extensions → PolicyImpl → Outcome Given
parts_outcome e p =
    both (both (effect_outcome p.effect) (kept_outcome p.annotations))
    (both (scope_outcome e p) (conditions_outcome e p.conds))

abbrev pub template_of : Extensions → List ℕ → Option Loc → Policy → Outcome TemplateParts
template_of e id place (trees.Policy p) =
    next (parts_outcome e p) (λ given. Ok (given_parts id place given))

abbrev pub template_outcome : Extensions → List ℕ → Node (Option Policy) → Outcome TemplateParts
template_outcome e id n = next (content_outcome n.loc n.node) (template_of e id n.loc)

-- ---- static policies

-- the slots of a template's scope; its condition has none
abbrev pub scope_slots : TemplateParts → List Slot
scope_slots t =
    at_most_one (constraint_slot ids.Principal t.principal.constraint)
    ++ at_most_one (constraint_slot ids.Resource t.resource.constraint)

-- a static policy where its scope has no slot, else a template
abbrev pub policy_side : List Slot → TemplateParts → Either TemplateParts TemplateParts
policy_side [] t = Left t
policy_side (s ∷ ss) t = Right t

abbrev pub side_outcome : Outcome TemplateParts → Outcome (Either TemplateParts TemplateParts)
side_outcome t = next t (λ parts. Ok (policy_side (scope_slots parts) parts))

abbrev pub either_outcome : Extensions → List ℕ → Node (Option Policy)
    → Outcome (Either TemplateParts TemplateParts)
either_outcome e id n = side_outcome (template_outcome e id n)

-- the same of what the program holds
abbrev pub either_parts : Either Template Template → Either TemplateParts TemplateParts
either_parts (Left t) = Left (template_parts t)
either_parts (Right t) = Right (template_parts t)

-- the bytes of a slot in the policy's text, inside the policy or not; the policy's place where
-- the slot's isn't known or is no range of bytes
abbrev pub slot_bytes : Loc → Place → Loc
slot_bytes loc p = if nat_lt (p.offset + p.length) (2 ^ 64) then bytes_at loc p else loc

abbrev pub slot_place : Option Loc → Option Place → Option Loc
slot_place (Some loc) (Some p) = Some (slot_bytes loc p)
slot_place place _ = place

-- a template is refused at its first slot
abbrev pub unless_slots : Option Loc → List Slot → TemplateParts → Outcome TemplateParts
unless_slots place [] t = Ok t
unless_slots place (s ∷ ss) t =
    detailed_outcome expected_static_policy (slot_place place s.place) (detail.slot s)

abbrev pub is_slot_fault : Kind → Bool
is_slot_fault slots_in_condition_clause = true
is_slot_fault _ = false

-- a slot by itself, of what tells one in a condition
abbrev pub slot_told : detail.Detail → detail.Detail
slot_told (detail.condition_slot s word) = detail.slot s
slot_told told = told

-- one more fault for each slot in a condition, with it and at its place
abbrev pub slot_faults : List NamedFault → List NamedFault
slot_faults faults =
    map (λ f. (expected_static_policy, f.1, slot_told f.2)) (filter (λ f. is_slot_fault f.0) faults)

abbrev pub only_static : Option Loc → Outcome TemplateParts → Outcome TemplateParts
only_static place (Ok t) = unless_slots place (scope_slots t) t
only_static place (Err faults) = Err (faults ++ slot_faults faults)

abbrev pub static_outcome : Extensions → List ℕ → Node (Option Policy) → Outcome TemplateParts
static_outcome e id n = only_static n.loc (template_outcome e id n)

-- ---- sets

-- what a template means: its parts without places
abbrev pub meaning_of : TemplateParts → free.Policy
meaning_of t = record {
  id = t.id;
  annotations = with_values annotation_value t.annotations;
  effect = t.effect;
  principal = constraint_meaning t.principal.constraint;
  action = t.action;
  resource = constraint_meaning t.resource.constraint;
  condition = t.condition;
}

-- the policies from a number on, joined
abbrev pub policies_from : Extensions → ℕ → List (Node (Option Policy))
    → Outcome (List TemplateParts)
policies_from e i [] = Ok []
policies_from e i (n ∷ ns) =
    next (both (template_outcome e (policy_id i) n) (policies_from e (suc i) ns)) with_first

abbrev pub with_parts : free.Policies → TemplateParts → free.Policies
with_parts set t = with_policy set (meaning_of t)

abbrev pub set_of : List TemplateParts → free.Policies
set_of ts = fold with_parts no_policies ts

abbrev pub parts_set_outcome : Outcome (List TemplateParts) → Outcome free.Policies
parts_set_outcome all = next all (λ ts. Ok (set_of ts))

abbrev pub set_outcome : Extensions → List (Node (Option Policy)) → Outcome free.Policies
set_outcome e ns = parts_set_outcome (policies_from e 0 ns)

abbrev pub policies_outcome : Extensions → Node (Option Policies) → Outcome free.Policies
policies_outcome e n = next (content_outcome n.loc n.node) (λ ps. set_outcome e ps.0)

-- ---- sets with their places

-- a set's static policies and templates, by name, with all places but those inside conditions
pub record PlacedPolicies : Type 0 where
  pub policies : FinMap text_order TemplateParts
  pub templates : FinMap text_order TemplateParts

abbrev pub no_placed : PlacedPolicies
no_placed = record { policies = empty; templates = empty }

abbrev pub placed_on : Bool → PlacedPolicies → TemplateParts → PlacedPolicies
placed_on true set t = record set { templates = insert set.templates t.id t }
placed_on false set t = record set { policies = insert set.policies t.id t }

-- as a template where a slot stands in its scope, else as a static policy
abbrev pub with_placed : PlacedPolicies → TemplateParts → PlacedPolicies
with_placed set t = placed_on (has_slot_in_scope (meaning_of t)) set t

abbrev pub placed_set : List TemplateParts → PlacedPolicies
placed_set ts = fold with_placed no_placed ts

abbrev pub placed_policies : Extensions → List (Node (Option Policy)) → Outcome PlacedPolicies
placed_policies e ns = next (policies_from e 0 ns) (λ ts. Ok (placed_set ts))

abbrev pub placed_outcome : Extensions → Node (Option Policies) → Outcome PlacedPolicies
placed_outcome e n = next (content_outcome n.loc n.node) (λ ps. placed_policies e ps.0)

-- the same of what the program holds
abbrev pub set_parts : PolicyMaps → PlacedPolicies
set_parts set = record {
  policies = with_values template_parts set.policies;
  templates = with_values template_parts set.templates;
}

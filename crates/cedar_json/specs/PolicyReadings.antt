-- Which policy, and which set of policies, a JSON value is: the form of Cedar's documentation,
-- "JSON policy format", read. All members are wanted but `annotations`. The conditions of a policy
-- are joined, `unless` negates, and no slot stands in them. A link makes a static policy of a
-- template, each of whose slots has an entity, and no other has one.
use Rattle.std.specs.Prelude.{ℕ, Bool, true, false, cond, not, ◌&&◌, ◌||◌, List, [], ◌∷◌, ◌++◌, codes, map, Option, Some, None, option_map, option_and_then, is_some}
use Rattle.std.specs.List.{list_all, fold}
use Rattle.std.specs.Str.{bytes_eq}
use Rattle.std.specs.FinMap as maps
use Rattle.std.specs.FinMap.{FinMap, contains_key}
use Rattle.json.specs.Json.{Json, null, boolean, number, string, array, object, Items, no_items, item, Members, no_members, member}
use Rattle.cedar_expressions.specs.declared.atoms.SlotId.{SlotId}
use Rattle.cedar_expressions.specs.declared.atoms.SlotId.TheVariants as slots
use Rattle.cedar_expressions.specs.declared.entity.EntityUID.{EntityUID}
use Rattle.std.specs.Map.{keys_of}
use Rattle.cedar_expressions.specs.Keys.{repeats_key}
use Rattle.cedar_expressions.specs.Path.{is_identifier}
use Rattle.cedar_expressions.specs.Slots.{slots_of, Slots}
use Rattle.cedar_expressions.specs.Value as v
use Rattle.cedar_expressions.specs.Value.{Value}
use Rattle.cedar_expressions.specs.Written.{slot_text}
use Rattle.cedar_policy_store.specs.declared.constraints.ActionConstraint.{ActionConstraint}
use Rattle.cedar_policy_store.specs.declared.constraints.ActionConstraint.TheVariants as action
use Rattle.cedar_policy_store.specs.declared.effect.Effect.{Effect}
use Rattle.cedar_policy_store.specs.declared.effect.Effect.TheVariants.{Permit, Forbid}
use Rattle.cedar_policy_store.specs.Actions.{is_action}
use Rattle.cedar_policy_store.specs.PlaceFree.{Reference, entity, own_slot, Constraint, any, equal_to, inside, typed, typed_inside, Policy, Policies, has_slot_in_scope, asks_for_slot}
use Rattle.cedar_policy_store.specs.TextMap.{text_order}
use Rattle.cedar_json.specs.Members.{are_among, member_keys, json_at, text_at, members_from, members_among}
use Rattle.cedar_json.specs.Readings.{Known, expr_from, entity_from}

abbrev pub guard : {A : Type 0} → Bool → Option A → Option A
guard holds a = cond holds a None

-- ---- the scope

-- where nothing else can stand, an entity may stand under `__entity` too
abbrev pub scope_entity_from : Known → Json → Option EntityUID
scope_entity_from k j =
    cond (is_some (members_among (codes "__entity" ∷ []) j))
    (option_and_then (λ ms. option_and_then (entity_from k) (json_at (codes "__entity") ms))
    (members_from j)) (entity_from k j)

abbrev pub own_slot_from : SlotId → List ℕ → Option Reference
own_slot_from slot text = guard (bytes_eq text (slot_text slot)) (Some own_slot)

-- an entity or the slot, beside the members with these keys
abbrev pub reference_from : Known → SlotId → List (List ℕ) → Members → Option Reference
reference_from k slot beside ms =
    cond (is_some (json_at (codes "entity") ms))
    (guard (are_among (codes "entity" ∷ beside) (member_keys ms)) (option_map (λ e. entity e)
    (option_and_then (scope_entity_from k) (json_at (codes "entity") ms))))
    (guard (are_among (codes "slot" ∷ beside) (member_keys ms))
    (option_and_then (own_slot_from slot) (text_at (codes "slot") ms)))

abbrev pub inside_from : Known → SlotId → Members → Option Reference
inside_from k slot ms =
    option_and_then (reference_from k slot [])
    (option_and_then members_from (json_at (codes "in") ms))

abbrev pub typed_from : Known → SlotId → Members → Option Constraint
typed_from k slot ms =
    guard (are_among (codes "op" ∷ codes "entity_type" ∷ codes "in" ∷ []) (member_keys ms))
    (option_and_then (λ n. cond (is_some (json_at (codes "in") ms))
    (option_map (λ r. typed_inside (record { name = n }) r) (inside_from k slot ms))
    (Some (typed (record { name = n }))))
    (option_and_then k.name (text_at (codes "entity_type") ms)))

-- the program that reads the form takes both spellings
abbrev pub is_all : List ℕ → Bool
is_all op = bytes_eq op (codes "All") || bytes_eq op (codes "all")

abbrev pub constraint_by_op : Known → SlotId → Members → List ℕ → Option Constraint
constraint_by_op k slot ms op =
    cond (is_all op) (guard (are_among (codes "op" ∷ []) (member_keys ms)) (Some any))
    (cond (bytes_eq op (codes "=="))
    (option_map (λ r. equal_to r) (reference_from k slot (codes "op" ∷ []) ms))
    (cond (bytes_eq op (codes "in"))
    (option_map (λ r. inside r) (reference_from k slot (codes "op" ∷ []) ms))
    (cond (bytes_eq op (codes "is")) (typed_from k slot ms) None)))

abbrev pub constraint_from : Known → SlotId → Json → Option Constraint
constraint_from k slot j =
    option_and_then (λ ms. option_and_then (constraint_by_op k slot ms) (text_at (codes "op") ms))
    (members_from j)

-- actions are of types whose last identifier is `Action`
abbrev pub action_entity_from : Known → Json → Option EntityUID
action_entity_from k j =
    option_and_then (λ e. guard (is_action e) (Some e)) (scope_entity_from k j)

abbrev pub action_entities_from : Known → Items → Option (List EntityUID)
action_entities_from k no_items = Some []
action_entities_from k (item j js) =
    option_and_then (λ e. option_map (λ es. e ∷ es) (action_entities_from k js))
    (action_entity_from k j)

abbrev pub entity_list_from : Known → Json → Option (List EntityUID)
entity_list_from k null = None
entity_list_from k (boolean b) = None
entity_list_from k (number s) = None
entity_list_from k (string s) = None
entity_list_from k (array js) = action_entities_from k js
entity_list_from k (object ms) = None

abbrev pub one_action_from : Known → Members → Option EntityUID
one_action_from k ms =
    guard (are_among (codes "op" ∷ codes "entity" ∷ []) (member_keys ms))
    (option_and_then (action_entity_from k) (json_at (codes "entity") ms))

abbrev pub actions_from : Known → Members → Option (List EntityUID)
actions_from k ms =
    cond (is_some (json_at (codes "entity") ms)) (option_map (λ e. e ∷ []) (one_action_from k ms))
    (guard (are_among (codes "op" ∷ codes "entities" ∷ []) (member_keys ms))
    (option_and_then (entity_list_from k) (json_at (codes "entities") ms)))

abbrev pub action_by_op : Known → Members → List ℕ → Option ActionConstraint
action_by_op k ms op =
    cond (is_all op)
    (guard (are_among (codes "op" ∷ []) (member_keys ms)) (Some action.Any))
    (cond (bytes_eq op (codes "==")) (option_map (λ e. action.Eq e) (one_action_from k ms))
    (cond (bytes_eq op (codes "in")) (option_map (λ es. action.In es) (actions_from k ms)) None))

abbrev pub action_from : Known → Json → Option ActionConstraint
action_from k j =
    option_and_then (λ ms. option_and_then (action_by_op k ms) (text_at (codes "op") ms))
    (members_from j)

-- ---- conditions

abbrev pub has_no_slot : Slots → Bool
has_no_slot [] = true
has_no_slot (slot ∷ slots) = false

abbrev pub body_by : List ℕ → Value → Option Value
body_by kind a =
    cond (bytes_eq kind (codes "when")) (Some a)
    (cond (bytes_eq kind (codes "unless")) (Some (v.not a)) None)

abbrev pub condition_from : Known → Json → Option Value
condition_from k j =
    option_and_then (λ ms. option_and_then (λ kind. option_and_then (λ a.
    guard (has_no_slot (slots_of a)) (body_by kind a))
    (option_and_then (expr_from k) (json_at (codes "body") ms))) (text_at (codes "kind") ms))
    (members_among (codes "kind" ∷ codes "body" ∷ []) j)

abbrev pub conditions_read : Known → Items → Option (List Value)
conditions_read k no_items = Some []
conditions_read k (item j js) =
    option_and_then (λ c. option_map (λ cs. c ∷ cs) (conditions_read k js)) (condition_from k j)

abbrev pub condition_list_from : Known → Json → Option (List Value)
condition_list_from k null = None
condition_list_from k (boolean b) = None
condition_list_from k (number s) = None
condition_list_from k (string s) = None
condition_list_from k (array js) = conditions_read k js
condition_list_from k (object ms) = None

abbrev pub conjunction : Value → List Value → Value
conjunction a [] = a
conjunction a (b ∷ bs) = v.and a (conjunction b bs)

-- conditions, joined
abbrev pub joined : List Value → Option Value
joined [] = None
joined (a ∷ bs) = Some (conjunction a bs)

-- ---- annotations

abbrev pub annotation_from : Json → Option (List ℕ)
annotation_from null = Some []
annotation_from (boolean b) = None
annotation_from (number s) = None
annotation_from (string s) = Some s
annotation_from (array js) = None
annotation_from (object ms) = None

abbrev pub annotation_texts : Members → Option (List (List ℕ × List ℕ))
annotation_texts no_members = Some []
annotation_texts (member key j ms) =
    option_and_then (λ text. option_map (λ xs. (key, text) ∷ xs) (annotation_texts ms))
    (annotation_from j)

-- the map of these, of which no two have one key
abbrev pub keyed : {X : Type 0} → List (List ℕ × X) → FinMap text_order X
keyed xs = fold (λ m x. maps.insert m x.0 x.1) maps.empty xs

-- each key is an identifier, once
abbrev pub are_annotations : List (List ℕ × List ℕ) → Bool
are_annotations xs = list_all (λ x. is_identifier x.0) xs && not (repeats_key (keys_of xs))

abbrev pub annotations_from : Option Json → Option (FinMap text_order (List ℕ))
annotations_from None = Some maps.empty
annotations_from (Some j) =
    option_and_then (λ xs. guard (are_annotations xs) (Some (keyed xs)))
    (option_and_then annotation_texts (members_from j))

-- ---- policies

abbrev pub effect_from : List ℕ → Option Effect
effect_from s =
    cond (bytes_eq s (codes "permit")) (Some Permit)
    (cond (bytes_eq s (codes "forbid")) (Some Forbid) None)

abbrev pub policy_keys : List (List ℕ)
policy_keys =
    codes "effect" ∷ codes "principal" ∷ codes "action" ∷ codes "resource" ∷ codes "conditions"
    ∷ codes "annotations" ∷ []

-- a policy under a name
abbrev pub policy_from : Known → List ℕ → Json → Option Policy
policy_from k id j =
    option_and_then (λ ms.
    option_and_then (λ effect.
    option_and_then (λ principal.
    option_and_then (λ action.
    option_and_then (λ resource.
    option_and_then (λ conditions.
    option_map (λ annotations. record {
      id = id;
      annotations = annotations;
      effect = effect;
      principal = principal;
      action = action;
      resource = resource;
      condition = joined conditions;
    })
    (annotations_from (json_at (codes "annotations") ms)))
    (option_and_then (condition_list_from k) (json_at (codes "conditions") ms)))
    (option_and_then (constraint_from k slots.Resource) (json_at (codes "resource") ms)))
    (option_and_then (action_from k) (json_at (codes "action") ms)))
    (option_and_then (constraint_from k slots.Principal) (json_at (codes "principal") ms)))
    (option_and_then effect_from (text_at (codes "effect") ms)))
    (members_among policy_keys j)

-- ---- sets

abbrev pub policies_read : Known → Members → Option (List Policy)
policies_read k no_members = Some []
policies_read k (member id j ms) =
    option_and_then (λ p. option_map (λ ps. p ∷ ps) (policies_read k ms)) (policy_from k id j)

abbrev pub policies_at : Known → List ℕ → Members → Option (List Policy)
policies_at k key ms =
    option_and_then (policies_read k) (option_and_then members_from (json_at key ms))

abbrev pub by_own_name : List Policy → FinMap text_order Policy
by_own_name ps = keyed (map (λ p. (p.id, p)) ps)

abbrev pub names_of : List Policy → List (List ℕ)
names_of = map (λ p. p.id)

-- each name stands once, and a static policy has no slot
abbrev pub are_policies : List Policy → List Policy → Bool
are_policies policies templates =
    not (repeats_key (names_of policies ++ names_of templates))
    && list_all (λ p. not (has_slot_in_scope p)) policies

abbrev pub holds_name : Policies → List ℕ → Bool
holds_name set id = contains_key set.policies id || contains_key set.templates id

-- ---- links

pub record Link : Type 0 where
  pub template : List ℕ
  pub id : List ℕ
  pub principal : Option EntityUID
  pub resource : Option EntityUID

abbrev pub slot_entity_from : Known → List ℕ → Members → Option (Option EntityUID)
slot_entity_from k key ms =
    cond (is_some (json_at key ms))
    (option_map (λ e. Some e) (option_and_then (scope_entity_from k) (json_at key ms))) (Some None)

abbrev pub link_from : Known → Json → Option Link
link_from k j =
    option_and_then (λ ms.
    option_and_then (λ template.
    option_and_then (λ id.
    option_and_then (λ values.
    option_and_then (λ principal.
    option_map (λ resource.
    record { template = template; id = id; principal = principal; resource = resource })
    (slot_entity_from k (codes "?resource") values))
    (slot_entity_from k (codes "?principal") values))
    (option_and_then (members_among (codes "?principal" ∷ codes "?resource" ∷ []))
    (json_at (codes "values") ms)))
    (text_at (codes "newId") ms))
    (text_at (codes "templateId") ms))
    (members_among (codes "templateId" ∷ codes "newId" ∷ codes "values" ∷ []) j)

abbrev pub links_read : Known → Items → Option (List Link)
links_read k no_items = Some []
links_read k (item j js) =
    option_and_then (λ x. option_map (λ xs. x ∷ xs) (links_read k js)) (link_from k j)

abbrev pub links_from : Known → Json → Option (List Link)
links_from k null = None
links_from k (boolean b) = None
links_from k (number s) = None
links_from k (string s) = None
links_from k (array js) = links_read k js
links_from k (object ms) = None

abbrev pub filled_reference : Option EntityUID → Reference → Reference
filled_reference own (entity e) = entity e
filled_reference None own_slot = own_slot
filled_reference (Some e) own_slot = entity e

abbrev pub filled_constraint : Option EntityUID → Constraint → Constraint
filled_constraint e any = any
filled_constraint e (equal_to r) = equal_to (filled_reference e r)
filled_constraint e (inside r) = inside (filled_reference e r)
filled_constraint e (typed t) = typed t
filled_constraint e (typed_inside t r) = typed_inside t (filled_reference e r)

abbrev pub same : Bool → Bool → Bool
same true b = b
same false b = not b

-- the policy that a link makes of its template
abbrev pub linked : Link → Policy → Option Policy
linked link t =
    guard (same (asks_for_slot t.principal) (is_some link.principal)
    && same (asks_for_slot t.resource) (is_some link.resource))
    (Some (record t {
      id = link.id;
      principal = filled_constraint link.principal t.principal;
      resource = filled_constraint link.resource t.resource;
    }))

abbrev pub with_linked : Policies → Link → Option Policies
with_linked set link =
    guard (not (holds_name set link.id)) (option_map (λ p.
    record set { policies = maps.insert set.policies p.id p })
    (option_and_then (linked link) (maps.get set.templates link.template)))

abbrev pub with_links : Policies → List Link → Option Policies
with_links set [] = Some set
with_links set (x ∷ xs) = option_and_then (λ more. with_links more xs) (with_linked set x)

-- a set: its policies, its templates, and then its links, in whatever order they stand
abbrev pub set_from : Known → Json → Option Policies
set_from k j =
    option_and_then (λ ms.
    option_and_then (λ links.
    option_and_then (λ templates.
    option_and_then (λ policies.
    guard (are_policies policies templates)
    (with_links (record {
      policies = by_own_name policies;
      templates = by_own_name templates;
    }) links))
    (policies_at k (codes "staticPolicies") ms))
    (policies_at k (codes "templates") ms))
    (option_and_then (links_from k) (json_at (codes "templateLinks") ms)))
    (members_among (codes "staticPolicies" ∷ codes "templates" ∷ codes "templateLinks" ∷ []) j)

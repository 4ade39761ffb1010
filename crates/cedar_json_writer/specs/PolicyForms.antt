-- Which JSON a policy and a set of policies are, after Cedar's documentation, "JSON policy
-- format". A policy's name stands outside of it, as its key in a set. Conditions that were joined
-- are written apart again, a negated one as `unless`; `annotations` is left out where there are
-- none. The policies that are made of a template are static policies of a set here, so that it has
-- no link.
use Rattle.std.specs.Prelude.{ℕ, List, [], ◌∷◌, codes, Option, Some, None}
use Rattle.std.specs.List.{flat_map}
use Rattle.std.specs.FinMap.{entries}
use Rattle.json.specs.Json.{Json, string, array, object, Items, no_items, item, Members, no_members, member}
use Rattle.cedar_expressions.specs.declared.atoms.SlotId.{SlotId}
use Rattle.cedar_expressions.specs.declared.atoms.SlotId.TheVariants as slots
use Rattle.cedar_expressions.specs.declared.entity.EntityUID.{EntityUID}
use Rattle.cedar_expressions.specs.Path.{name_text}
use Rattle.cedar_expressions.specs.Value as v
use Rattle.cedar_expressions.specs.Value.{Value}
use Rattle.cedar_expressions.specs.Written.{slot_text}
use Rattle.cedar_policy_store.specs.declared.constraints.ActionConstraint.{ActionConstraint}
use Rattle.cedar_policy_store.specs.declared.constraints.ActionConstraint.TheVariants as action
use Rattle.cedar_policy_store.specs.PlaceFree.{Reference, entity, own_slot, Constraint, any, equal_to, inside, typed, typed_inside, Policy}
use Rattle.cedar_policy_store.specs.PolicyText.{effect_text}
use Rattle.cedar_json_writer.specs.Forms.{value_json, entity_json}
use Rattle.cedar_json_writer.specs.FunctionKeys.{keys_called}

-- ---- the scope

-- what is asked, and its operands
abbrev pub asks_json : List ℕ → Members → Json
asks_json op operands = object (member (codes "op") (string op) operands)

-- an entity, or the slot of the variable
abbrev pub reference_member : SlotId → Reference → Members
reference_member slot (entity uid) = member (codes "entity") (entity_json uid) no_members
reference_member slot own_slot = member (codes "slot") (string (slot_text slot)) no_members

abbrev pub constraint_json : SlotId → Constraint → Json
constraint_json slot any = asks_json (codes "All") no_members
constraint_json slot (equal_to r) = asks_json (codes "==") (reference_member slot r)
constraint_json slot (inside r) = asks_json (codes "in") (reference_member slot r)
constraint_json slot (typed t) =
    asks_json (codes "is") (member (codes "entity_type") (string (name_text t.name)) no_members)
constraint_json slot (typed_inside t r) =
    asks_json (codes "is") (member (codes "entity_type") (string (name_text t.name))
    (member (codes "in") (object (reference_member slot r)) no_members))

abbrev pub entity_items : List EntityUID → Items
entity_items [] = no_items
entity_items (uid ∷ uids) = item (entity_json uid) (entity_items uids)

-- an entity alone is no list
abbrev pub entities_member : List EntityUID → Members
entities_member [] = member (codes "entities") (array no_items) no_members
entities_member (uid ∷ []) = member (codes "entity") (entity_json uid) no_members
entities_member (uid ∷ next ∷ uids) =
    member (codes "entities") (array (entity_items (uid ∷ next ∷ uids))) no_members

abbrev pub action_json : ActionConstraint → Json
action_json action.Any = asks_json (codes "All") no_members
action_json (action.Eq uid) =
    asks_json (codes "==") (member (codes "entity") (entity_json uid) no_members)
action_json (action.In uids) = asks_json (codes "in") (entities_member uids)

-- ---- conditions

-- those that were joined
unfoldable pub conditions_apart : Value → List Value
conditions_apart (v.and a b) = a ∷ conditions_apart b
conditions_apart a = a ∷ []

abbrev pub conditions_listed : Option Value → List Value
conditions_listed None = []
conditions_listed (Some a) = conditions_apart a

abbrev pub body_json : List ℕ → Value → Json
body_json kind a =
    object (member (codes "kind") (string kind) (member (codes "body") (value_json a) no_members))

abbrev pub condition_json : Value → Json
condition_json (v.not a) = body_json (codes "unless") a
condition_json a = body_json (codes "when") a

abbrev pub condition_items : List Value → Items
condition_items [] = no_items
condition_items (c ∷ cs) = item (condition_json c) (condition_items cs)

-- ---- annotations, in the order of their keys

abbrev pub text_members : List (List ℕ × List ℕ) → Members
text_members [] = no_members
text_members (x ∷ xs) = member x.0 (string x.1) (text_members xs)

abbrev pub annotations_member : List (List ℕ × List ℕ) → Members
annotations_member [] = no_members
annotations_member (x ∷ xs) =
    member (codes "annotations") (object (text_members (x ∷ xs))) no_members

-- ---- policies, and sets of them in the order of their names

abbrev pub policy_json : Policy → Json
policy_json p =
    object (member (codes "effect") (string (effect_text p.effect))
    (member (codes "principal") (constraint_json slots.Principal p.principal)
    (member (codes "action") (action_json p.action)
    (member (codes "resource") (constraint_json slots.Resource p.resource)
    (member (codes "conditions") (array (condition_items (conditions_listed p.condition)))
    (annotations_member (entries p.annotations)))))))

abbrev pub policy_members : List Policy → Members
policy_members [] = no_members
policy_members (p ∷ ps) = member p.id (policy_json p) (policy_members ps)

abbrev pub set_json : List Policy → List Policy → Json
set_json policies templates =
    object (member (codes "staticPolicies") (object (policy_members policies))
    (member (codes "templates") (object (policy_members templates))
    (member (codes "templateLinks") (array no_items) no_members)))

-- ---- the functions that their conditions call by an operator's key

abbrev pub keys_called_by : Policy → List (List ℕ)
keys_called_by p = flat_map (λ c. keys_called c []) (conditions_listed p.condition)

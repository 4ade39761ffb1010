-- What a host reads of a policy, and what of the text's set and tree it is.
use Rattle.std.specs.Prelude.{◌≡◌, ◌<◌, ℕ, suc, List, [], ◌∷◌, ◌++◌, map, codes, Bool, true, false, Option, Some, None}
use Rattle.std.specs.Option.{is_some, option_map}
use Rattle.std.specs.FinMap.{FinMap, entries}
use Rattle.either.specs.declared.Either.{Either}
use Rattle.either.specs.declared.Either.TheVariants.{Left, Right}
use Rattle.cedar_expressions.specs.declared.entity.EntityType.{EntityType}
use Rattle.cedar_expressions.specs.declared.entity.EntityUID.{EntityUID}
use Rattle.cedar_expressions.specs.Path.{name_text}
use Rattle.cedar_policy_store.specs.declared.annotation.Annotation.{Annotation}
use Rattle.cedar_policy_store.specs.declared.constraints.ActionConstraint.{ActionConstraint}
use Rattle.cedar_policy_store.specs.declared.constraints.ActionConstraint.TheVariants as action
use Rattle.cedar_policy_store.specs.declared.constraints.EntityReference.{EntityReference}
use Rattle.cedar_policy_store.specs.declared.constraints.EntityReference.TheVariants.{EUID, Slot}
use Rattle.cedar_policy_store.specs.declared.constraints.PrincipalOrResourceConstraint.{PrincipalOrResourceConstraint}
use Rattle.cedar_policy_store.specs.declared.constraints.PrincipalOrResourceConstraint.TheVariants.{Any, Eq, In, Is, IsIn}
use Rattle.cedar_policy_store.specs.declared.effect.Effect.{Effect}
use Rattle.cedar_policy_store.specs.declared.effect.Effect.TheVariants.{Permit, Forbid}
use Rattle.cedar_policy_store.specs.declared.template.Template.{Template}
use Rattle.cedar_policy_store.specs.PolicyMaps.{PolicyMaps, policy_named}
use Rattle.cedar_policy_store.specs.TextMap.{text_order}
use Rattle.cedar_syntax.specs.declared.cst.Policies.{Policies}
use Rattle.cedar_syntax.specs.declared.cst.Policy.{Policy}
use Rattle.cedar_syntax.specs.trees.Trees.{Cell}
use Rattle.cedar_syntax.specs.trees.Unplaced.{policy_tree}
use Rattle.cedar_grammar.specs.printing.PrintLaw.{node_text}
use Rattle.cedar_policy_conversion.specs.PolicyMeaning.{policy_id}
use Rattle.cedar_answers.specs.Places.{node_range}
use Rattle.cedar_answers.specs.declared.answer.CedarAnnotation.{CedarAnnotation}
use Rattle.cedar_answers.specs.declared.answer.CedarEntity.{CedarEntity}
use Rattle.cedar_answers.specs.declared.answer.CedarPolicy.{CedarPolicy}
use Rattle.cedar_answers.specs.declared.answer.CedarRange.{CedarRange}
use Rattle.cedar_answers.specs.declared.answer.CedarScope.{CedarScope}

-- ---- as it is read, lists in the place of blocks

-- an entity's type and id
abbrev pub entity_read : CedarEntity → List ℕ × List ℕ
entity_read entity = (entity.entity_type.now, entity.id.now)

abbrev pub entities_read : List CedarEntity → List (List ℕ × List ℕ)
entities_read all = map entity_read all

-- an annotation's key and value
abbrev pub annotation_read : CedarAnnotation → List ℕ × List ℕ
annotation_read annotation = (annotation.key.now, annotation.value.now)

abbrev pub annotations_read : List CedarAnnotation → List (List ℕ × List ℕ)
annotations_read all = map annotation_read all

-- what is asked of a variable
pub record ScopeTold : Type 0 where
  pub operator : List ℕ
  pub entity_type : List ℕ
  pub entities : List (List ℕ × List ℕ)
  pub is_slot : Bool

abbrev pub scope_read : CedarScope → ScopeTold
scope_read scope = record {
  operator = scope.operator.now;
  entity_type = scope.entity_type.now;
  entities = entities_read scope.entities.now;
  is_slot = scope.is_slot;
}

pub record PolicyTold : Type 0 where
  pub id : List ℕ
  pub printed : List ℕ
  pub annotations : List (List ℕ × List ℕ)
  pub principal : ScopeTold
  pub action : ScopeTold
  pub resource : ScopeTold
  pub place : CedarRange
  pub is_template : Bool
  pub is_forbid : Bool

abbrev pub policy_read : CedarPolicy → PolicyTold
policy_read policy = record {
  id = policy.id.now;
  printed = policy.printed.now;
  annotations = annotations_read policy.annotations.now;
  principal = scope_read policy.principal;
  action = scope_read policy.action;
  resource = scope_read policy.resource;
  place = policy.place;
  is_template = policy.is_template;
  is_forbid = policy.is_forbid;
}

-- ---- what of a scope it is; the words are those of Cedar's JSON policies

abbrev pub entity_told : EntityUID → List ℕ × List ℕ
entity_told entity = (name_text entity.entity_type.name, entity.eid.text)

-- an operator with a list of entities
abbrev pub listing_told : List ℕ → List (List ℕ × List ℕ) → ScopeTold
listing_told operator entities =
    record { operator = operator; entity_type = []; entities = entities; is_slot = false }

abbrev pub typed_told : EntityType → ScopeTold
typed_told entity_type = record {
  operator = codes "is";
  entity_type = name_text entity_type.name;
  entities = [];
  is_slot = false;
}

abbrev pub type_told : Option EntityType → List ℕ
type_told None = []
type_told (Some entity_type) = name_text entity_type.name

abbrev pub referred_told : EntityReference → List (List ℕ × List ℕ)
referred_told (EUID entity) = entity_told entity ∷ []
referred_told (Slot mark) = []

abbrev pub is_slot_told : EntityReference → Bool
is_slot_told (EUID entity) = false
is_slot_told (Slot mark) = true

-- an operator with an entity or a slot, behind a type if there is one
abbrev pub referring_told : List ℕ → Option EntityType → EntityReference → ScopeTold
referring_told operator entity_type reference = record {
  operator = operator;
  entity_type = type_told entity_type;
  entities = referred_told reference;
  is_slot = is_slot_told reference;
}

abbrev pub constraint_told : PrincipalOrResourceConstraint → ScopeTold
constraint_told Any = listing_told (codes "All") []
constraint_told (Eq reference) = referring_told (codes "==") None reference
constraint_told (In reference) = referring_told (codes "in") None reference
constraint_told (Is entity_type) = typed_told entity_type
constraint_told (IsIn entity_type reference) =
    referring_told (codes "is") (Some entity_type) reference

abbrev pub action_told : ActionConstraint → ScopeTold
action_told action.Any = listing_told (codes "All") []
action_told (action.Eq entity) = listing_told (codes "==") (entity_told entity ∷ [])
action_told (action.In entities) = listing_told (codes "in") (map entity_told entities)

-- ---- what of a policy it is

-- keys and values, in the order of the keys
abbrev pub annotations_told : FinMap text_order Annotation → List (List ℕ × List ℕ)
annotations_told annotations = map (λ entry. (entry.0, entry.1.value)) (entries annotations)

abbrev pub is_forbid_told : Effect → Bool
is_forbid_told Permit = false
is_forbid_told Forbid = true

-- a policy, whose tree stands at this node of the text
abbrev pub policy_told : List ℕ → Cell Policy → Template → Bool → PolicyTold
policy_told text node policy is_template = record {
  id = policy.id;
  printed = node_text policy_tree node;
  annotations = annotations_told policy.annotations;
  principal = constraint_told policy.principal.constraint;
  action = action_told policy.action;
  resource = constraint_told policy.resource.constraint;
  place = node_range text node.loc;
  is_template = is_template;
  is_forbid = is_forbid_told policy.effect;
}

-- a static policy, or a template
abbrev pub side_told : List ℕ → Cell Policy → Either Template Template → PolicyTold
side_told text node (Left policy) = policy_told text node policy false
side_told text node (Right policy) = policy_told text node policy true

-- the policy of a number, whose tree stands at this node, as far as the set has it
abbrev pub numbered_told : List ℕ → PolicyMaps → ℕ → Cell Policy → Option PolicyTold
numbered_told text set n node = option_map (side_told text node) (policy_named set (policy_id n))

-- the set has a policy for each of so many numbers
abbrev pub HasNumbered : PolicyMaps → ℕ → Type 0
HasNumbered set count = (n : ℕ) → n < count → is_some (policy_named set (policy_id n)) ≡ true

abbrev pub as_list : {X : Type 0} → Option X → List X
as_list None = []
as_list (Some x) = x ∷ []

-- of each policy from a number on
abbrev pub told_from : List ℕ → PolicyMaps → ℕ → List (Cell Policy) → List PolicyTold
told_from text set n [] = []
told_from text set n (node ∷ nodes) =
    as_list (numbered_told text set n node) ++ told_from text set (suc n) nodes

abbrev pub nodes_of : Option Policies → List (Cell Policy)
nodes_of None = []
nodes_of (Some policies) = policies.0

-- of each policy of a tree, in the order of the text
abbrev pub policies_told : List ℕ → PolicyMaps → Cell Policies → List PolicyTold
policies_told text set tree = told_from text set 0 (nodes_of tree.node)

-- Entities of action types.
use Rattle.std.specs.Prelude.{List, [], ◌∷◌, Bool, not, filter, codes}
use Rattle.std.specs.Str.{bytes_eq}
use Rattle.cedar_expressions.specs.declared.entity.EntityUID.{EntityUID}
use Rattle.cedar_policy_store.specs.declared.constraints.ActionConstraint.{ActionConstraint}
use Rattle.cedar_policy_store.specs.declared.constraints.ActionConstraint.TheVariants.{Any, Eq, In}

-- an action type is one whose last identifier is `Action`
abbrev pub is_action : EntityUID → Bool
is_action entity = bytes_eq entity.entity_type.name.id (codes "Action")

-- the entities whose types are none
abbrev pub but_actions : List EntityUID → List EntityUID
but_actions = filter (λ entity. not (is_action entity))

-- the entities that a constraint names
abbrev pub named_entities : ActionConstraint → List EntityUID
named_entities Any = []
named_entities (Eq entity) = entity ∷ []
named_entities (In entities) = entities

-- The scope of a policy: what is asked of the principal, the action and the resource. The rules
-- are those of Cedar's `to_principal_constraint`, `to_action_constraint` and `extract_scope`: of
-- each element the first fault is told, those of the elements are joined.
use Rattle.std.specs.Prelude.{List, [], ◌∷◌, map, drop, slice_get, Option, Some, None, Ok, Err, Bool, true, false, if◌then◌else◌}
use Rattle.std.specs.Option.{option_map}
use Rattle.cedar_expressions.specs.declared.entity.EntityType.{EntityType}
use Rattle.cedar_expressions.specs.declared.entity.EntityUID.{EntityUID}
use Rattle.cedar_expressions.specs.declared.atoms.Var.{Var}
use Rattle.cedar_expressions.specs.declared.atoms.Var.TheVariants as vars
use Rattle.cedar_expressions.specs.Value as v
use Rattle.cedar_expressions.specs.Value.{Value}
use Rattle.cedar_policy_store.specs.declared.constraints.ActionConstraint.{ActionConstraint}
use Rattle.cedar_policy_store.specs.declared.constraints.ActionConstraint.TheVariants as action
use Rattle.cedar_policy_store.specs.declared.constraints.EntityReference.{EntityReference}
use Rattle.cedar_policy_store.specs.declared.constraints.PrincipalConstraint.{PrincipalConstraint}
use Rattle.cedar_policy_store.specs.declared.constraints.PrincipalOrResourceConstraint.{PrincipalOrResourceConstraint}
use Rattle.cedar_policy_store.specs.declared.constraints.PrincipalOrResourceConstraint.TheVariants as constraint
use Rattle.cedar_policy_store.specs.declared.constraints.ResourceConstraint.{ResourceConstraint}
use Rattle.cedar_policy_store.specs.Actions.{but_actions, named_entities}
use Rattle.cedar_syntax.specs.declared.cst.Add.{Add}
use Rattle.cedar_syntax.specs.declared.cst.Expr.{Expr}
use Rattle.cedar_syntax.specs.declared.cst.Ident.{Ident}
use Rattle.cedar_syntax.specs.declared.cst.Ident.TheVariants as words
use Rattle.cedar_syntax.specs.declared.cst.Name.{Name}
use Rattle.cedar_syntax.specs.declared.cst.PolicyImpl.{PolicyImpl}
use Rattle.cedar_syntax.specs.declared.cst.RelOp.{RelOp}
use Rattle.cedar_syntax.specs.declared.cst.RelOp.TheVariants as rel
use Rattle.cedar_syntax.specs.declared.cst.VariableDef.{VariableDef}
use Rattle.cedar_syntax.specs.declared.loc.Loc.{Loc}
use Rattle.cedar_syntax.specs.declared.node.Node.{Node}
use Rattle.cedar_syntax.specs.trees.Forms.{located, add_form, expr_form}
use Rattle.cedar_syntax.specs.places.Span.{end_of}
use Rattle.cedar_policy_conversion.specs.declared.to_ref_or_refs.OneOrMultipleRefs.{OneOrMultipleRefs}
use Rattle.cedar_policy_conversion.specs.declared.to_ref_or_refs.OneOrMultipleRefs.TheVariants as refs
use Rattle.cedar_policy_conversion.specs.declared.to_ref_or_refs.SingleEntity.{SingleEntity}
use Rattle.cedar_conversion.specs.outcome.Conversion.{outcome, value_outcome}
use Rattle.cedar_conversion.specs.strict.Extensions.{Extensions}
use Rattle.cedar_conversion.specs.outcome.Held.{as_entity_type}
use Rattle.cedar_conversion.specs.parts.Names.{content_outcome}
use Rattle.cedar_conversion.specs.outcome.Detail as detail
use Rattle.cedar_conversion.specs.outcome.Outcome.{NamedFault, Outcome, fault_outcome, detailed_outcome, both, next, empty_node, invalid_scope_variable, type_constraints, inverted_is_in, is_with_eq, invalid_single_eq, invalid_scope_operator, incorrect_variable, is_in_action_scope, invalid_action_scope_operator, invalid_action_type, missing_scope_variable, extra_scope_element, faults_outcome}
use Rattle.cedar_policy_conversion.specs.References.{referent_outcome, single_entity, entity_or_slot, one_or_multiple}

-- ---- an element's variable

-- one of the three words that a scope has
abbrev pub scope_variable_of : Option Loc → Ident → Outcome Var
scope_variable_of place words.Principal = Ok vars.Principal
scope_variable_of place words.Action = Ok vars.Action
scope_variable_of place words.Resource = Ok vars.Resource
scope_variable_of place i = detailed_outcome invalid_scope_variable place (detail.word i)

abbrev pub scope_variable : Node (Option Ident) → Outcome Var
scope_variable n = next (content_outcome n.loc n.node) (scope_variable_of n.loc)

-- the name behind `:`, at its place; an empty node is passed over
abbrev pub type_name : Option Loc → Option Name → Outcome (Unit {0})
type_name place (Some name) = fault_outcome type_constraints place
type_name place None = Ok tt

abbrev pub no_type_name : Option (Node (Option Name)) → Outcome (Unit {0})
no_type_name (Some n) = type_name n.loc n.node
no_type_name None = Ok tt

-- the variable of an element, without a type behind `:`
abbrev pub element_variable : VariableDef → Outcome Var
element_variable d =
    next (scope_variable d.variable) (λ x. next (no_type_name d.unused_type_name) (λ _. Ok x))

-- ---- `in` with a right side that `is` makes

abbrev pub made_by_is : Value → Bool
made_by_is (v.is_entity_type a entity_type) = true
made_by_is _ = false

-- a right side that doesn't convert isn't made by `is`
abbrev pub is_made_by_is : Outcome Value → Bool
is_made_by_is (Ok x) = made_by_is x
is_made_by_is (Err fs) = false

abbrev pub is_inverted : Extensions → RelOp → Node (Option Expr) → Bool
is_inverted e rel.In n = is_made_by_is (value_outcome e (located expr_form n))
is_inverted e _ n = false

-- ---- principal and resource

-- right of `is`
abbrev pub type_outcome : Extensions → Node (Option Add) → Outcome EntityType
type_outcome e n = next (outcome e (located add_form n)) as_entity_type

-- a type, and an entity or a slot
abbrev pub type_and : Extensions → EntityReference → Node (Option Add)
    → Outcome PrincipalOrResourceConstraint
type_and e r n = next (type_outcome e n) (λ entity_type. Ok (constraint.IsIn entity_type r))

-- what an operator asks with an entity or a slot, beside a type if there is one
abbrev pub operator_outcome : Extensions → Option Loc → RelOp → Option (Node (Option Add))
    → EntityReference → Outcome PrincipalOrResourceConstraint
operator_outcome e place rel.Eq None r = Ok (constraint.Eq r)
operator_outcome e place rel.Eq (Some n) r = fault_outcome is_with_eq place
operator_outcome e place rel.In None r = Ok (constraint.In r)
operator_outcome e place rel.In (Some n) r = type_and e r n
operator_outcome e place rel.InvalidSingleEq n r = fault_outcome invalid_single_eq place
operator_outcome e place op n r =
    detailed_outcome invalid_scope_operator place (detail.operator op)

-- a type alone, or nothing
abbrev pub asked_type : Extensions → Option (Node (Option Add))
    → Outcome PrincipalOrResourceConstraint
asked_type e (Some n) = next (type_outcome e n) (λ entity_type. Ok (constraint.Is entity_type))
asked_type e None = Ok constraint.Any

abbrev pub constraint_outcome : Extensions → Option Loc → Var → Option (Node (Option Add))
    → Option (RelOp × Node (Option Expr)) → Outcome PrincipalOrResourceConstraint
constraint_outcome e place x entity_type (Some p) =
    if is_inverted e p.0 p.1 then fault_outcome inverted_is_in place
    else next (referent_outcome entity_or_slot x p.1) (operator_outcome e place p.0 entity_type)
constraint_outcome e place x entity_type None = asked_type e entity_type

-- whether the variable that an element has is the one whose place it is
abbrev pub stands_there : Var → Var → Bool
stands_there vars.Principal vars.Principal = true
stands_there vars.Resource vars.Resource = true
stands_there _ _ = false

-- it is looked at last
abbrev pub in_its_place : Option Loc → Var → Var → PrincipalOrResourceConstraint
    → Outcome PrincipalOrResourceConstraint
in_its_place place expected x c =
    if stands_there expected x then Ok c
    else detailed_outcome incorrect_variable place (detail.variables expected x)

abbrev pub element_of : Extensions → Var → Option Loc → VariableDef
    → Outcome PrincipalOrResourceConstraint
element_of e expected place d =
    next (element_variable d)
    (λ x. next (constraint_outcome e place x d.entity_type d.ineq) (in_its_place place expected x))

-- the element of the principal, or of the resource
abbrev pub element_outcome : Extensions → Var → Node (Option VariableDef)
    → Outcome PrincipalOrResourceConstraint
element_outcome e expected n = next (content_outcome n.loc n.node) (element_of e expected n.loc)

abbrev pub principal_outcome : Extensions → Node (Option VariableDef) → Outcome PrincipalConstraint
principal_outcome e n =
    next (element_outcome e vars.Principal n) (λ c. Ok (record { constraint = c }))

abbrev pub resource_outcome : Extensions → Node (Option VariableDef) → Outcome ResourceConstraint
resource_outcome e n =
    next (element_outcome e vars.Resource n) (λ c. Ok (record { constraint = c }))

-- ---- action

abbrev pub action_alone : Option Loc → Var → Outcome (Unit {0})
action_alone place vars.Action = Ok tt
action_alone place x =
    detailed_outcome incorrect_variable place (detail.variables vars.Action x)

-- the action has no type
abbrev pub no_entity_type : Option Loc → Option (Node (Option Add)) → Outcome (Unit {0})
no_entity_type place (Some n) = fault_outcome is_in_action_scope place
no_entity_type place None = Ok tt

-- `in` one entity is a list of one
abbrev pub within : OneOrMultipleRefs → ActionConstraint
within (refs.Single uid) = action.In (uid ∷ [])
within (refs.Multiple uids) = action.In uids

abbrev pub equal_to : SingleEntity → ActionConstraint
equal_to one = action.Eq one.0

abbrev pub action_in : Extensions → Option Loc → Node (Option Expr) → Outcome ActionConstraint
action_in e place n =
    if is_inverted e rel.In n then fault_outcome is_in_action_scope place
    else next (referent_outcome one_or_multiple vars.Action n) (λ all. Ok (within all))

abbrev pub action_eq : Node (Option Expr) → Outcome ActionConstraint
action_eq n = next (referent_outcome single_entity vars.Action n) (λ one. Ok (equal_to one))

abbrev pub action_by : Extensions → Option Loc → RelOp → Node (Option Expr)
    → Outcome ActionConstraint
action_by e place rel.In n = action_in e place n
action_by e place rel.Eq n = action_eq n
action_by e place rel.InvalidSingleEq n = fault_outcome invalid_single_eq place
action_by e place op n =
    detailed_outcome invalid_action_scope_operator place (detail.operator op)

-- entities that have no action type are refused where they stand
abbrev pub unless_others : Option Loc → ActionConstraint → List EntityUID
    → Outcome ActionConstraint
unless_others place c [] = Ok c
unless_others place c (uid ∷ uids) =
    detailed_outcome invalid_action_type place (detail.entities (uid ∷ uids))

abbrev pub only_actions : Option Loc → ActionConstraint → Outcome ActionConstraint
only_actions place c = unless_others place c (but_actions (named_entities c))

abbrev pub asked_action : Extensions → Option Loc → Option (RelOp × Node (Option Expr))
    → Outcome ActionConstraint
asked_action e place (Some p) = next (action_by e place p.0 p.1) (only_actions p.1.loc)
asked_action e place None = Ok action.Any

-- the variable, that no type stands behind `:`, that none stands behind `is`
abbrev pub action_variable : Option Loc → VariableDef → Outcome (Unit {0})
action_variable place d =
    next (scope_variable d.variable)
    (λ x. next (action_alone place x)
    (λ _. next (no_type_name d.unused_type_name) (λ _. no_entity_type place d.entity_type)))

abbrev pub action_of : Extensions → Option Loc → VariableDef → Outcome ActionConstraint
action_of e place d = next (action_variable place d) (λ _. asked_action e place d.ineq)

abbrev pub action_outcome : Extensions → Node (Option VariableDef) → Outcome ActionConstraint
action_outcome e n = next (content_outcome n.loc n.node) (action_of e n.loc)

-- ---- the whole scope

-- what is asked of the principal, the action and the resource
abbrev pub Scope : Type 0
Scope = PrincipalConstraint × ActionConstraint × ResourceConstraint

-- the place of an element that is there, else the last one before it
abbrev pub or_before : Option Loc → Option Loc → Option Loc
or_before before (Some loc) = Some loc
or_before before None = before

abbrev pub place_behind : Option Loc → Option (Node (Option VariableDef)) → Option Loc
place_behind before (Some n) = or_before before n.loc
place_behind before None = before

-- no bytes, at the end of a place
abbrev pub end_place : Option Loc → Option Loc
end_place place =
    option_map
    (λ loc. record { span = record { offset = end_of loc.span; len = 0 }; src = loc.src }) place

-- the element of a variable; one that isn't there stands at the end of what is before it
abbrev pub if_there : {X : Type 0} → Var → (Node (Option VariableDef) → Outcome X) → Option Loc
    → Option (Node (Option VariableDef)) → Outcome X
if_there x f before (Some n) = f n
if_there x f before None =
    detailed_outcome missing_scope_variable (end_place before) (detail.variable x)

-- each element beyond the third
abbrev pub extra_element_fault : Option Loc → Option VariableDef → NamedFault
extra_element_fault place (Some d) = (extra_scope_element, place, detail.element d)
extra_element_fault place None = (empty_node, place, detail.nothing)

abbrev pub no_extra : List (Node (Option VariableDef)) → Outcome (Unit {0})
no_extra ns = faults_outcome (map (λ n. extra_element_fault n.loc n.node) ns)

abbrev pub three : (PrincipalConstraint × ActionConstraint) × (ResourceConstraint × Unit {0})
    → Outcome Scope
three ((principal, action), (resource, no_more)) = Ok (principal, action, resource)

-- the elements, the place of the effect before them
abbrev pub scope_of : Extensions → Option Loc → Option (Node (Option VariableDef))
    → Option (Node (Option VariableDef)) → Option (Node (Option VariableDef))
    → List (Node (Option VariableDef)) → Outcome Scope
scope_of e before first second third others =
    next (both
    (both (if_there vars.Principal (principal_outcome e) before first)
    (if_there vars.Action (action_outcome e) (place_behind before first) second))
    (both (if_there vars.Resource (resource_outcome e)
    (place_behind (place_behind before first) second) third)
    (no_extra others))) three

abbrev pub elements_outcome : Extensions → Option Loc → List (Node (Option VariableDef))
    → Outcome Scope
elements_outcome e before ns =
    scope_of e before (slice_get ns 0) (slice_get ns 1) (slice_get ns 2) (drop 3 ns)

abbrev pub scope_outcome : Extensions → PolicyImpl → Outcome Scope
scope_outcome e p = elements_outcome e p.effect.loc p.variables

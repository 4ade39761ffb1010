-- What a conversion gives, want of memory aside: what is wanted, or all faults that hinder it, in
-- their order. The outcomes of parts are joined by `both`, the faults of each one after another,
-- or by `next`, what comes next only where all before it is given. (Where a static policy is
-- wanted, `only_static` of cedar_policy_conversion tells faults behind those of a template.)
use Rattle.std.specs.Prelude.{List, [], ◌∷◌, ◌++◌, Option, Some, None, Result, Ok, Err}
use Rattle.cedar_syntax.specs.declared.loc.Loc.{Loc}
use Rattle.cedar_conversion.specs.outcome.Detail.{Detail, nothing}

-- what is wrong
pub data Kind : Type 0 where
  duplicate_template_id : Kind
  duplicate_policy_id : Kind
  expected_static_policy : Kind
  expected_template : Kind
  duplicate_annotation : Kind
  slots_in_condition_clause : Kind
  missing_scope_variable : Kind
  extra_scope_element : Kind
  reserved_identifier : Kind
  invalid_identifier : Kind
  invalid_single_eq : Kind
  invalid_effect : Kind
  invalid_condition : Kind
  invalid_scope_variable : Kind
  incorrect_variable : Kind
  invalid_scope_operator : Kind
  invalid_action_scope_operator : Kind
  is_in_action_scope : Kind
  is_with_eq : Kind
  invalid_action_type : Kind
  empty_clause : Kind
  membership_invariant_violation : Kind
  invalid_string : Kind
  arbitrary_variable : Kind
  invalid_attribute : Kind
  invalid_has_rhs : Kind
  path_as_attribute : Kind
  function_call_on_method : Kind
  method_call_on_function : Kind
  invalid_pattern : Kind
  invalid_is_type : Kind
  wrong_node : Kind
  ambiguous_operators : Kind
  unsupported_division : Kind
  unsupported_modulo : Kind
  expression_construction_error : Kind
  integer_literal_too_large : Kind
  unary_op_limit : Kind
  variable_call : Kind
  no_methods : Kind
  unknown_method : Kind
  unknown_function : Kind
  invalid_entity_literal : Kind
  expression_call : Kind
  invalid_access : Kind
  invalid_index : Kind
  non_string_index : Kind
  type_constraints : Kind
  non_normalized_string : Kind
  empty_node : Kind
  wrong_arity : Kind
  unescape : Kind
  wrong_entity_argument : Kind
  invalid_slot : Kind
  reserved_namespace : Kind
  inverted_is_in : Kind

-- what is wrong, where, and what is told beside
abbrev pub NamedFault : Type 0
NamedFault = Kind × Option Loc × Detail

abbrev pub Outcome : Type 0 → Type 0
Outcome Y = Result Y (List NamedFault)

-- one fault alone
abbrev pub detailed_outcome : {Y : Type 0} → Kind → Option Loc → Detail → Outcome Y
detailed_outcome kind place detail = Err ((kind, place, detail) ∷ [])

-- one of which its kind tells all
abbrev pub fault_outcome : {Y : Type 0} → Kind → Option Loc → Outcome Y
fault_outcome kind place = detailed_outcome kind place nothing

-- these faults, or nothing where there are none
abbrev pub faults_outcome : List NamedFault → Outcome (Unit {0})
faults_outcome [] = Ok tt
faults_outcome (f ∷ fs) = Err (f ∷ fs)

-- both, or the faults of each
abbrev pub both : {X Y : Type 0} → Outcome X → Outcome Y → Outcome (X × Y)
both (Ok x) (Ok y) = Ok (x, y)
both (Ok x) (Err fs) = Err fs
both (Err fs) (Ok y) = Err fs
both (Err fs) (Err gs) = Err (fs ++ gs)

-- what comes next, only where all before it is given
abbrev pub next : {X Y : Type 0} → Outcome X → (X → Outcome Y) → Outcome Y
next (Ok x) f = f x
next (Err fs) f = Err fs

-- one more item behind those so far
abbrev pub item_more : {X : Type 0} → Outcome (List X) → Outcome X → Outcome (List X)
item_more xs x = next (both xs x) (λ p. Ok (p.0 ++ p.1 ∷ []))

-- what is given, if anything is
abbrev pub outcome_value : {Y : Type 0} → Outcome Y → Option Y
outcome_value (Ok y) = Some y
outcome_value (Err fs) = None

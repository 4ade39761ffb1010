-- The texts in a value stand for what they were made of, and no function is called by the key of
-- an operator: what is to be read back of what is written.
use Rattle.std.specs.Prelude.{◌≡◌, true, false, [], Some}
use Rattle.std.specs.FinMap.{entries, values}
use Rattle.std.specs.Fmt.{signed_decimal}
use Rattle.std.specs.List.{AllByRecursion, list_all}
use Rattle.cedar_expressions.specs.declared.atoms.Literal.{Literal}
use Rattle.cedar_expressions.specs.declared.atoms.Literal.TheVariants as literals
use Rattle.cedar_expressions.specs.Keys.{repeats_key}
use Rattle.cedar_expressions.specs.declared.entity.EntityUID.{EntityUID}
use Rattle.cedar_expressions.specs.Path.{Path, name_text, is_identifier}
use Rattle.cedar_expressions.specs.Slots.{slots_of}
use Rattle.cedar_expressions.specs.Value as v
use Rattle.cedar_expressions.specs.Value.{Value, Values, Terms, Fields}
use Rattle.cedar_policy_store.specs.declared.constraints.ActionConstraint.{ActionConstraint}
use Rattle.cedar_policy_store.specs.declared.constraints.ActionConstraint.TheVariants as action
use Rattle.cedar_policy_store.specs.Actions.{is_action}
use Rattle.cedar_policy_store.specs.PlaceFree.{Reference, entity, own_slot, Constraint, any, equal_to, inside, typed, typed_inside, Policy, Policies}
use Rattle.cedar_json_writer.specs.Forms.{pattern_items}
use Rattle.cedar_json_writer.specs.FunctionKeys.{is_operator_key}
use Rattle.cedar_json_writer.specs.PolicyForms.{conditions_listed}
use Rattle.cedar_json.specs.PolicyReadings.{are_policies}
use Rattle.cedar_json.specs.Readings.{Known, parts_from, record_keys}

abbrev pub IsLegibleLiteral : Known → Literal → Type 0
IsLegibleLiteral k (literals.Bool b) = Unit {0}
IsLegibleLiteral k (literals.Long n) = k.long (signed_decimal n) ≡ Some n
IsLegibleLiteral k (literals.String text) = Unit {0}
IsLegibleLiteral k (literals.EntityUID uid) =
    k.name (name_text uid.entity_type.name) ≡ Some uid.entity_type.name

unfoldable mutual
  pub IsLegible : Known → Value → Type 0
  IsLegible k (v.val literal) = IsLegibleLiteral k literal
  IsLegible k (v.var x) = Unit {0}
  IsLegible k (v.slot x) = Unit {0}
  IsLegible k (v.ite a b c) = IsLegible k a × IsLegible k b × IsLegible k c
  IsLegible k (v.not a) = IsLegible k a
  IsLegible k (v.neg a) = IsLegible k a
  IsLegible k (v.or_nary a bs) = IsLegible k a × AreLegible k bs
  IsLegible k (v.and_naryl a bs) = IsLegible k a × AreLegible k bs
  IsLegible k (v.add_nary a ts) = IsLegible k a × TermsAreLegible k ts
  IsLegible k (v.mul_nary a bs) = IsLegible k a × AreLegible k bs
  IsLegible k (v.and a b) = IsLegible k a × IsLegible k b
  IsLegible k (v.less a b) = IsLegible k a × IsLegible k b
  IsLegible k (v.lesseq a b) = IsLegible k a × IsLegible k b
  IsLegible k (v.greater a b) = IsLegible k a × IsLegible k b
  IsLegible k (v.greatereq a b) = IsLegible k a × IsLegible k b
  IsLegible k (v.is_eq a b) = IsLegible k a × IsLegible k b
  IsLegible k (v.noteq a b) = IsLegible k a × IsLegible k b
  IsLegible k (v.is_in a b) = IsLegible k a × IsLegible k b
  IsLegible k (v.contains a b) = IsLegible k a × IsLegible k b
  IsLegible k (v.contains_all a b) = IsLegible k a × IsLegible k b
  IsLegible k (v.contains_any a b) = IsLegible k a × IsLegible k b
  IsLegible k (v.get_tag a b) = IsLegible k a × IsLegible k b
  IsLegible k (v.has_tag a b) = IsLegible k a × IsLegible k b
  IsLegible k (v.like a pattern) =
      IsLegible k a × (parts_from k (pattern_items [] pattern) ≡ Some pattern)
  IsLegible k (v.is_entity_type a t) = IsLegible k a × (k.name (name_text t.name) ≡ Some t.name)
  IsLegible k (v.is_in_entity_type a t b) =
      IsLegible k a × (k.name (name_text t.name) ≡ Some t.name) × IsLegible k b
  IsLegible k (v.extended_has_attr a first rest) = IsLegible k a
  IsLegible k (v.get_attr a attr) = IsLegible k a
  IsLegible k (v.is_empty a) = IsLegible k a
  IsLegible k (v.call_extension_fn name args) =
      (k.function (name_text name) ≡ Some name)
      × (is_operator_key (name_text name) ≡ false) × AreLegible k args
  IsLegible k (v.set items) = AreLegible k items
  IsLegible k (v.«record» pairs) =
      FieldsAreLegible k pairs × (repeats_key (record_keys pairs) ≡ false)

  pub AreLegible : Known → Values → Type 0
  AreLegible k v.none = Unit {0}
  AreLegible k (v.more a bs) = IsLegible k a × AreLegible k bs

  pub TermsAreLegible : Known → Terms → Type 0
  TermsAreLegible k v.no_terms = Unit {0}
  TermsAreLegible k (v.term o a ts) = IsLegible k a × TermsAreLegible k ts

  pub FieldsAreLegible : Known → Fields → Type 0
  FieldsAreLegible k v.no_fields = Unit {0}
  FieldsAreLegible k (v.field key a fs) = IsLegible k a × FieldsAreLegible k fs

-- ---- policies

abbrev pub IsLegibleName : Known → Path → Type 0
IsLegibleName k n = k.name (name_text n) ≡ Some n

abbrev pub IsLegibleReference : Known → Reference → Type 0
IsLegibleReference k (entity uid) = IsLegibleName k uid.entity_type.name
IsLegibleReference k own_slot = Unit {0}

abbrev pub IsLegibleConstraint : Known → Constraint → Type 0
IsLegibleConstraint k any = Unit {0}
IsLegibleConstraint k (equal_to r) = IsLegibleReference k r
IsLegibleConstraint k (inside r) = IsLegibleReference k r
IsLegibleConstraint k (typed t) = IsLegibleName k t.name
IsLegibleConstraint k (typed_inside t r) = IsLegibleName k t.name × IsLegibleReference k r

abbrev pub IsLegibleActionEntity : Known → EntityUID → Type 0
IsLegibleActionEntity k uid = IsLegibleName k uid.entity_type.name × (is_action uid ≡ true)

abbrev pub IsLegibleAction : Known → ActionConstraint → Type 0
IsLegibleAction k action.Any = Unit {0}
IsLegibleAction k (action.Eq uid) = IsLegibleActionEntity k uid
IsLegibleAction k (action.In uids) = AllByRecursion (IsLegibleActionEntity k) uids

abbrev pub IsLegibleCondition : Known → Value → Type 0
IsLegibleCondition k c = IsLegible k c × (slots_of c ≡ [])

pub record IsLegiblePolicy (k : Known) (p : Policy) : Type 0 where
  pub annotations : list_all (λ x. is_identifier x.0) (entries p.annotations) ≡ true
  pub principal : IsLegibleConstraint k p.principal
  pub action : IsLegibleAction k p.action
  pub resource : IsLegibleConstraint k p.resource
  pub conditions : AllByRecursion (IsLegibleCondition k) (conditions_listed p.condition)

-- each policy stands under its own name, which no other has, and a static one has no slot
pub record IsLegibleSet (k : Known) (set : Policies) : Type 0 where
  pub policies : AllByRecursion (IsLegiblePolicy k) (values set.policies)
  pub templates : AllByRecursion (IsLegiblePolicy k) (values set.templates)
  pub own_names : AllByRecursion (λ e. e.1.id ≡ e.0) (entries set.policies)
  pub own_template_names : AllByRecursion (λ e. e.1.id ≡ e.0) (entries set.templates)
  pub are_policies : are_policies (values set.policies) (values set.templates) ≡ true

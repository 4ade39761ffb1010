-- The words of a policy: annotations, effect, scope, conditions. Conditions that were joined are
-- written apart again, a negated one as `unless`.
use Rattle.std.specs.Prelude.{◌≡◌, ℕ, ◌+◌, true, false, List, [], ◌∷◌, ◌++◌, codes, Option, Some, None}
use Rattle.std.specs.List.{list_all}
use Rattle.std.specs.Map.{keys_of}
use Rattle.std.specs.Str.{IsUtf8}
use Rattle.cedar_lexer.specs.declared.token.TokenKind.{TokenKind}
use Rattle.cedar_lexer.specs.declared.token.TokenKind.TheVariants as kind
use Rattle.cedar_lexer.specs.Words.{TokenText}
use Rattle.cedar_expressions.specs.declared.entity.EntityUID.{EntityUID}
use Rattle.cedar_expressions.specs.Keys.{repeats_key}
use Rattle.cedar_expressions.specs.Path.{is_identifier}
use Rattle.cedar_expressions.specs.Slots.{slots_of}
use Rattle.cedar_expressions.specs.Value as v
use Rattle.cedar_expressions.specs.Value.{Value}
use Rattle.cedar_policy_store.specs.declared.constraints.ActionConstraint.{ActionConstraint}
use Rattle.cedar_policy_store.specs.declared.constraints.ActionConstraint.TheVariants as action
use Rattle.cedar_policy_store.specs.declared.effect.Effect.{Effect}
use Rattle.cedar_policy_store.specs.declared.effect.Effect.TheVariants as effects
use Rattle.cedar_policy_store.specs.Actions.{is_action}
use Rattle.cedar_policy_store.specs.PlaceFree.{Reference, entity, own_slot, Constraint, any, equal_to, inside, typed, typed_inside, Policy}
use Rattle.cedar_conversion.specs.strict.Extensions.{Extensions}
use Rattle.cedar_policy_conversion.specs.PolicyMeaning.{policy_id}
use Rattle.cedar_policy_conversion.specs.StrictPolicy.{by_key}
use Rattle.cedar_writer.specs.WrittenWords.{alone, word_kinds, kind_in, name_words, text_words, entity_words}
use Rattle.cedar_writer.specs.Writing.{words, comma}
use Rattle.cedar_writer.specs.Writable.{IsWritable, IsWritableName}

-- a policy's parts, annotations in the order in which they are written
pub record Parts : Type 0 where
  pub annotations : List (List ℕ × List ℕ)
  pub effect : Effect
  pub principal : Constraint
  pub action : ActionConstraint
  pub resource : Constraint
  pub condition : Option Value

abbrev pub assembled : List ℕ → Parts → Policy
assembled id parts = record {
  id = id;
  annotations = by_key parts.annotations;
  effect = parts.effect;
  principal = parts.principal;
  action = parts.action;
  resource = parts.resource;
  condition = parts.condition;
}

-- ---- annotations

-- a key is any word of the language too
abbrev pub key_kinds : List (List ℕ × TokenKind)
key_kinds =
    (codes "true", kind.True) ∷ (codes "false", kind.False) ∷ (codes "if", kind.If)
    ∷ (codes "then", kind.Then) ∷ (codes "else", kind.Else) ∷ (codes "in", kind.In)
    ∷ (codes "is", kind.Is) ∷ (codes "has", kind.Has) ∷ (codes "like", kind.Like) ∷ word_kinds

abbrev pub annotation_words : List ℕ → List ℕ → List TokenText
annotation_words key text =
    alone kind.At (codes "@") ++ alone (kind_in key_kinds key) key
    ++ alone kind.OpenParen (codes "(") ++ text_words text ++ alone kind.CloseParen (codes ")")

abbrev pub annotations_words : List (List ℕ × List ℕ) → List TokenText → List TokenText
annotations_words [] acc = acc
annotations_words (x ∷ xs) acc = annotations_words xs (acc ++ annotation_words x.0 x.1)

-- ---- the scope

abbrev pub reference_words : TokenKind → List ℕ → Reference → List TokenText
reference_words slot text (entity uid) = entity_words uid
reference_words slot text own_slot = alone slot text

abbrev pub equals : List TokenText
equals = alone kind.EqEq (codes "==")

abbrev pub in_word : List TokenText
in_word = alone kind.In (codes "in")

abbrev pub is_keyword : List TokenText
is_keyword = alone kind.Is (codes "is")

abbrev pub asks_words : TokenKind → List ℕ → Constraint → List TokenText
asks_words slot text any = []
asks_words slot text (equal_to r) = equals ++ reference_words slot text r
asks_words slot text (inside r) = in_word ++ reference_words slot text r
asks_words slot text (typed t) = is_keyword ++ name_words t.name
asks_words slot text (typed_inside t r) =
    is_keyword ++ name_words t.name ++ in_word ++ reference_words slot text r

abbrev pub more_entities_words : List EntityUID → List TokenText → List TokenText
more_entities_words [] acc = acc
more_entities_words (u ∷ us) acc = more_entities_words us (acc ++ comma ++ entity_words u)

abbrev pub entities_words : List EntityUID → List TokenText
entities_words [] = []
entities_words (u ∷ us) = more_entities_words us (entity_words u)

abbrev pub action_words : ActionConstraint → List TokenText
action_words action.Any = []
action_words (action.Eq uid) = equals ++ entity_words uid
action_words (action.In uids) =
    in_word ++ (alone kind.OpenBracket (codes "[") ++ entities_words uids
    ++ alone kind.CloseBracket (codes "]"))

abbrev pub scope_words : Constraint → ActionConstraint → Constraint → List TokenText
scope_words p a r =
    ((alone kind.Principal (codes "principal")
    ++ asks_words kind.PrincipalSlot (codes "?principal") p)
    ++ comma ++ (alone kind.Action (codes "action") ++ action_words a))
    ++ comma ++ (alone kind.Resource (codes "resource")
    ++ asks_words kind.ResourceSlot (codes "?resource") r)

-- ---- conditions

-- those that were joined
unfoldable pub conditions_in : Value → List Value
conditions_in (v.and a b) = a ∷ conditions_in b
conditions_in a = a ∷ []

abbrev pub conditions_of : Option Value → List Value
conditions_of None = []
conditions_of (Some a) = conditions_in a

abbrev pub body_words : TokenKind → List ℕ → List TokenText → List TokenText
body_words k text ws =
    alone k text ++ alone kind.OpenBrace (codes "{") ++ ws ++ alone kind.CloseBrace (codes "}")

abbrev pub condition_words : Extensions → Value → List TokenText
condition_words table (v.not a) = body_words kind.Unless (codes "unless") (words table a)
condition_words table a = body_words kind.When (codes "when") (words table a)

abbrev pub conditions_words : Extensions → List Value → List TokenText → List TokenText
conditions_words table [] acc = acc
conditions_words table (c ∷ cs) acc = conditions_words table cs (acc ++ condition_words table c)

-- ---- policies

abbrev pub effect_words : Effect → List TokenText
effect_words effects.Permit = alone kind.Permit (codes "permit")
effect_words effects.Forbid = alone kind.Forbid (codes "forbid")

abbrev pub policy_words : Extensions → Parts → List TokenText
policy_words table parts =
    annotations_words parts.annotations [] ++ effect_words parts.effect
    ++ alone kind.OpenParen (codes "(") ++ scope_words parts.principal parts.action parts.resource
    ++ alone kind.CloseParen (codes ")")
    ++ conditions_words table (conditions_of parts.condition) []
    ++ alone kind.Semicolon (codes ";")

-- ---- which policies tokens mean

abbrev pub AreWritableAnnotations : List (List ℕ × List ℕ) → Type 0
AreWritableAnnotations [] = Unit {0}
AreWritableAnnotations (x ∷ xs) =
    (is_identifier x.0 ≡ true) × IsUtf8 x.1 × AreWritableAnnotations xs

abbrev pub IsWritableEntity : EntityUID → Type 0
IsWritableEntity uid = IsWritableName uid.entity_type.name × IsUtf8 uid.eid.text

abbrev pub AreWritableEntities : List EntityUID → Type 0
AreWritableEntities [] = Unit {0}
AreWritableEntities (u ∷ us) = IsWritableEntity u × AreWritableEntities us

abbrev pub IsWritableReference : Reference → Type 0
IsWritableReference (entity uid) = IsWritableEntity uid
IsWritableReference own_slot = Unit {0}

abbrev pub IsWritableConstraint : Constraint → Type 0
IsWritableConstraint any = Unit {0}
IsWritableConstraint (equal_to r) = IsWritableReference r
IsWritableConstraint (inside r) = IsWritableReference r
IsWritableConstraint (typed t) = IsWritableName t.name
IsWritableConstraint (typed_inside t r) = IsWritableName t.name × IsWritableReference r

abbrev pub IsWritableAction : ActionConstraint → Type 0
IsWritableAction action.Any = Unit {0}
IsWritableAction (action.Eq uid) = IsWritableEntity uid × (is_action uid ≡ true)
IsWritableAction (action.In uids) = AreWritableEntities uids × (list_all is_action uids ≡ true)

-- a negated condition is written as `unless`, so its sign takes none of the limit
abbrev pub IsWritableCondition : Extensions → ℕ → Value → Type 0
IsWritableCondition table limit (v.not a) = IsWritable table limit a × (slots_of a ≡ [])
IsWritableCondition table limit a = IsWritable table limit a × (slots_of a ≡ [])

abbrev pub AreWritableConditions : Extensions → ℕ → List Value → Type 0
AreWritableConditions table limit [] = Unit {0}
AreWritableConditions table limit (c ∷ cs) =
    IsWritableCondition table limit c × AreWritableConditions table limit cs

pub record IsWritablePolicy (table : Extensions) (limit : ℕ) (parts : Parts) : Type 0 where
  pub annotations : AreWritableAnnotations parts.annotations
  pub keys_differ : repeats_key (keys_of parts.annotations) ≡ false
  pub principal : IsWritableConstraint parts.principal
  pub action : IsWritableAction parts.action
  pub resource : IsWritableConstraint parts.resource
  pub conditions : AreWritableConditions table limit (conditions_of parts.condition)

-- ---- policies one behind another, named after how many stand before them

abbrev pub policies_words : Extensions → List Parts → List TokenText → List TokenText
policies_words table [] acc = acc
policies_words table (x ∷ xs) acc = policies_words table xs (acc ++ policy_words table x)

abbrev pub numbered_policies : ℕ → List Parts → List Policy
numbered_policies n [] = []
numbered_policies n (x ∷ xs) = assembled (policy_id n) x ∷ numbered_policies (n + 1) xs

abbrev pub AreWritablePolicies : Extensions → ℕ → List Parts → Type 0
AreWritablePolicies table limit [] = Unit {0}
AreWritablePolicies table limit (x ∷ xs) =
    IsWritablePolicy table limit x × AreWritablePolicies table limit xs

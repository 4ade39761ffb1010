-- What was written of a policy is read as the policy, its conditions as they are read.
use Rattle.std.proofs.Common.{◌≡◌, ℕ, Bool, true, false, not, T, ◌&&◌, List, [], ◌∷◌, ◌++◌, codes, map, Option, Some, None, inl, inr, refl, ap, ap₂, sym, subst, ◌∙◌}
use Rattle.std.specs.Prelude.{◌⊎◌, option_map, option_and_then}
use Rattle.std.specs.FinMap.{FinMap, entries, entries_sorted, is_sorted, values}
use Rattle.std.specs.List.{AllByRecursion, list_all}
use Rattle.std.specs.Map.{keys_of}
use Rattle.json.specs.Json.{Json, array, object, string, member}
use Rattle.cedar_expressions.specs.declared.atoms.SlotId.{SlotId}
use Rattle.cedar_expressions.specs.declared.atoms.SlotId.TheVariants as slots
use Rattle.cedar_expressions.specs.declared.entity.EntityUID.{EntityUID}
use Rattle.cedar_expressions.specs.Keys.{repeats_key}
use Rattle.cedar_expressions.specs.Path.{Path, is_identifier}
use Rattle.cedar_expressions.specs.Slots.{slots_of, Slots}
use Rattle.cedar_expressions.specs.Value as v
use Rattle.cedar_expressions.specs.Value.{Value}
use Rattle.cedar_expressions.specs.Written.{slot_text}
use Rattle.cedar_policy_store.specs.declared.constraints.ActionConstraint.{ActionConstraint}
use Rattle.cedar_policy_store.specs.declared.constraints.ActionConstraint.TheVariants as action
use Rattle.cedar_policy_store.specs.declared.effect.Effect.{Effect}
use Rattle.cedar_policy_store.specs.declared.effect.Effect.TheVariants.{Permit, Forbid}
use Rattle.cedar_policy_store.specs.Actions.{is_action}
use Rattle.cedar_policy_store.specs.PlaceFree.{Reference, entity, own_slot, Constraint, any, equal_to, inside, typed, typed_inside, Policy, Policies, at_value, with_values, has_slot_in_scope}
use Rattle.cedar_policy_store.specs.TextMap.{text_order}
use Rattle.cedar_policy_store.specs.PolicyText.{effect_text}
use Rattle.cedar_json_writer.specs.Forms.{entity_json}
use Rattle.cedar_json_writer.specs.PolicyForms.{constraint_json, action_json, entity_items, conditions_listed, body_json, condition_json, condition_items, text_members, annotations_member, policy_json, policy_members, set_json}
use Rattle.cedar_json.specs.AsRead.{as_read, policy_as_read, set_as_read}
use Rattle.cedar_json.specs.PolicyReadings.{guard, own_slot_from, constraint_from, action_entity_from, action_entities_from, action_from, has_no_slot, condition_from, conditions_read, annotation_texts, annotations_from, keyed, effect_from, policy_from, policies_read, by_own_name, names_of, are_policies, set_from}
use Rattle.cedar_json.specs.Readings.{Known, entity_from, expr_from}
use Rattle.cedar_json.specs.Legible.{IsLegible, IsLegibleName, IsLegibleConstraint, IsLegibleActionEntity, IsLegibleAction, IsLegibleCondition, IsLegiblePolicy, IsLegibleSet}
use Rattle.cedar_policy_store.proofs.EqualPolicies.{entries-with_values}
use Rattle.cedar_json.proofs.FreeOfSlots.{free_read}
use Rattle.cedar_json.proofs.KeysInOrder.{by_key_sorted, keys_differ}
use Rattle.cedar_json.proofs.RoundTrip.{round}

-- ---- options

pub bind : {A B : Type 0} (o : Option A) (a : A) (f : A → Option B) (r : Option B) → o ≡ Some a → f a ≡ r → option_and_then f o ≡ r
bind o a f r e h = ap (option_and_then f) e ∙ h

pub guarded : {A : Type 0} (b : Bool) (o r : Option A) → b ≡ true → o ≡ r → guard b o ≡ r
guarded b o r e h = ap (λ (c : Bool). guard c o) e ∙ h

-- ---- the scope

entity_read : (k : Known) (uid : EntityUID) → IsLegibleName k uid.entity_type.name → entity_from k (entity_json uid) ≡ Some uid
entity_read k uid s =
    ap (λ (o : Option Path). option_and_then (λ (n : Path). Some (record { entity_type = record { name = n }; eid = record { text = uid.eid.text } })) o) s

own_slot_read : (slot : SlotId) → own_slot_from slot (slot_text slot) ≡ Some own_slot
own_slot_read slots.Principal = refl
own_slot_read slots.Resource = refl

constraint_read : (k : Known) (slot : SlotId) (c : Constraint) → IsLegibleConstraint k c → constraint_from k slot (constraint_json slot c) ≡ Some c
constraint_read k slot any s = refl
constraint_read k slot (equal_to (entity uid)) s =
    ap (λ (o : Option EntityUID). option_map (λ (r : Reference). equal_to r) (option_map (λ (e : EntityUID). entity e) o)) (entity_read k uid s)
constraint_read k slot (equal_to own_slot) s = ap (option_map (λ (r : Reference). equal_to r)) (own_slot_read slot)
constraint_read k slot (inside (entity uid)) s =
    ap (λ (o : Option EntityUID). option_map (λ (r : Reference). inside r) (option_map (λ (e : EntityUID). entity e) o)) (entity_read k uid s)
constraint_read k slot (inside own_slot) s = ap (option_map (λ (r : Reference). inside r)) (own_slot_read slot)
constraint_read k slot (typed t) s = ap (λ (o : Option Path). option_and_then (λ (n : Path). Some (typed (record { name = n }))) o) s
constraint_read k slot (typed_inside t (entity uid)) s =
    bind _ _ _ _ s.0 (ap (λ (o : Option EntityUID). option_map (λ (r : Reference). typed_inside t r) (option_map (λ (e : EntityUID). entity e) o)) (entity_read k uid s.1))
constraint_read k slot (typed_inside t own_slot) s =
    bind _ _ _ _ s.0 (ap (option_map (λ (r : Reference). typed_inside t r)) (own_slot_read slot))

action_entity_read : (k : Known) (uid : EntityUID) → IsLegibleActionEntity k uid → action_entity_from k (entity_json uid) ≡ Some uid
action_entity_read k uid s = bind _ uid _ _ (entity_read k uid s.0) (guarded (is_action uid) (Some uid) _ s.1 refl)

action_entities_read : (k : Known) (uids : List EntityUID) → AllByRecursion (IsLegibleActionEntity k) uids → action_entities_from k (entity_items uids) ≡ Some uids
action_entities_read k [] s = refl
action_entities_read k (uid ∷ uids) s =
    bind _ _ _ _ (action_entity_read k uid s.0) (ap (option_map (λ (es : List EntityUID). uid ∷ es)) (action_entities_read k uids s.1))

action_read : (k : Known) (a : ActionConstraint) → IsLegibleAction k a → action_from k (action_json a) ≡ Some a
action_read k action.Any s = refl
action_read k (action.Eq uid) s = ap (option_map (λ (e : EntityUID). action.Eq e)) (action_entity_read k uid s)
action_read k (action.In []) s = refl
action_read k (action.In (uid ∷ [])) s =
    ap (λ (o : Option EntityUID). option_map (λ (es : List EntityUID). action.In es) (option_map (λ (e : EntityUID). e ∷ []) o)) (action_entity_read k uid s.0)
action_read k (action.In (uid ∷ next ∷ uids)) s =
    ap (option_map (λ (es : List EntityUID). action.In es)) (action_entities_read k (uid ∷ next ∷ uids) s)

-- ---- conditions

-- a negation, or any other
abbrev Kinds : Value → Type 0
Kinds c = ((a : Value) × (c ≡ v.not a)) ⊎ (condition_json c ≡ body_json (codes "when") c)

kinds : (c : Value) → Kinds c
kinds (v.not a) = inl (a, refl)
kinds c = inr refl

no_slot : (xs : Slots) → xs ≡ [] → has_no_slot xs ≡ true
no_slot xs e = ap has_no_slot e

body_read : (k : Known) (a : Value) → IsLegible k a → slots_of a ≡ [] → condition_from k (body_json (codes "when") a) ≡ Some (as_read a)
unfolding expr_from
body_read k a s free = bind _ _ _ _ (round k a s) (guarded _ _ _ (no_slot _ (free_read a free)) refl)

unless_read : (k : Known) (a : Value) → IsLegible k a → slots_of a ≡ [] → condition_from k (body_json (codes "unless") a) ≡ Some (v.not (as_read a))
unfolding expr_from
unless_read k a s free = bind _ _ _ _ (round k a s) (guarded _ _ _ (no_slot _ (free_read a free)) refl)

not_said : (k : Known) (a c : Value) → c ≡ v.not a → IsLegibleCondition k c → IsLegible k a × (slots_of a ≡ [])
unfolding IsLegible slots_of
not_said k a c e s = (subst (IsLegible k) e s.0, ap slots_of (sym e) ∙ s.1)

not_read : (a : Value) → v.not (as_read a) ≡ as_read (v.not a)
unfolding as_read
not_read a = refl

condition_read : (k : Known) (c : Value) → Kinds c → IsLegibleCondition k c → condition_from k (condition_json c) ≡ Some (as_read c)
condition_read k c (inl (a, e)) s =
    let said = not_said k a c e s in
    ap (λ (x : Value). condition_from k (condition_json x)) e ∙ unless_read k a said.0 said.1 ∙ ap (λ (x : Value). Some x) (not_read a ∙ ap as_read (sym e))
condition_read k c (inr e) s = ap (condition_from k) e ∙ body_read k c s.0 s.1

condition_list_read : (k : Known) (cs : List Value) → AllByRecursion (IsLegibleCondition k) cs → conditions_read k (condition_items cs) ≡ Some (map as_read cs)
condition_list_read k [] s = refl
condition_list_read k (c ∷ cs) s =
    bind _ _ _ _ (condition_read k c (kinds c) s.0) (ap (option_map (λ (xs : List Value). as_read c ∷ xs)) (condition_list_read k cs s.1))

-- ---- annotations

texts_read : (xs : List (List ℕ × List ℕ)) → annotation_texts (text_members xs) ≡ Some xs
texts_read [] = refl
texts_read (x ∷ xs) = ap (option_map (λ (ys : List (List ℕ × List ℕ)). x ∷ ys)) (texts_read xs)

-- ---- policies

effect_read : (e : Effect) → effect_from (effect_text e) ≡ Some e
effect_read Permit = refl
effect_read Forbid = refl

-- the policy with these annotations
abbrev formed : Policy → List (List ℕ × List ℕ) → Json
formed p xs =
    object (member (codes "effect") (string (effect_text p.effect))
    (member (codes "principal") (constraint_json slots.Principal p.principal)
    (member (codes "action") (action_json p.action)
    (member (codes "resource") (constraint_json slots.Resource p.resource)
    (member (codes "conditions") (array (condition_items (conditions_listed p.condition))) (annotations_member xs))))))

abbrev annotations_in : List (List ℕ × List ℕ) → Option Json
annotations_in [] = None
annotations_in (x ∷ xs) = Some (object (text_members (x ∷ xs)))

abbrev read_under : Policy → FinMap text_order (List ℕ) → Policy
read_under p m = record (policy_as_read p) { annotations = m }

read_with : (k : Known) (p : Policy) (xs : List (List ℕ × List ℕ)) → IsLegiblePolicy k p → annotations_from (annotations_in xs) ≡ Some p.annotations → policy_from k p.id (formed p xs) ≡ Some (policy_as_read p)
read_with k p [] s e =
    bind _ _ _ _ (effect_read p.effect) (bind _ _ _ _ (constraint_read k slots.Principal p.principal s.principal) (bind _ _ _ _ (action_read k p.action s.action)
    (bind _ _ _ _ (constraint_read k slots.Resource p.resource s.resource) (bind _ _ _ _ (condition_list_read k (conditions_listed p.condition) s.conditions)
    (ap (option_map (read_under p)) e)))))
read_with k p (x ∷ xs) s e =
    bind _ _ _ _ (effect_read p.effect) (bind _ _ _ _ (constraint_read k slots.Principal p.principal s.principal) (bind _ _ _ _ (action_read k p.action s.action)
    (bind _ _ _ _ (constraint_read k slots.Resource p.resource s.resource) (bind _ _ _ _ (condition_list_read k (conditions_listed p.condition) s.conditions)
    (ap (option_map (read_under p)) e)))))

both_hold : (a b : Bool) → a ≡ true → b ≡ false → a && not b ≡ true
both_hold a b e h = ap₂ (λ (c d : Bool). c && not d) e h

annotations_back : (m : FinMap text_order (List ℕ)) (xs : List (List ℕ × List ℕ)) → entries m ≡ xs → list_all (λ x. is_identifier x.0) xs ≡ true → annotations_from (annotations_in xs) ≡ Some m
annotations_back m [] e s = ap (λ (x : FinMap text_order (List ℕ)). Some x) (by_key_sorted m [] e)
annotations_back m (x ∷ xs) e s =
    let differ : repeats_key (keys_of (x ∷ xs)) ≡ false = keys_differ (x ∷ xs) (subst (λ ys. T (is_sorted text_order ys)) e (entries_sorted m)) in
    bind _ _ _ _ (texts_read (x ∷ xs)) (guarded _ _ _ (both_hold _ _ s differ) (ap (λ (y : FinMap text_order (List ℕ)). Some y) (by_key_sorted m (x ∷ xs) e)))

pub policy_read : (k : Known) (p : Policy) → IsLegiblePolicy k p → policy_from k p.id (policy_json p) ≡ Some (policy_as_read p)
policy_read k p s = read_with k p (entries p.annotations) s (annotations_back p.annotations (entries p.annotations) refl s.annotations)

-- ---- sets

policies_back : (k : Known) (ps : List Policy) → AllByRecursion (IsLegiblePolicy k) ps → policies_read k (policy_members ps) ≡ Some (map policy_as_read ps)
policies_back k [] s = refl
policies_back k (p ∷ ps) s =
    bind _ _ _ _ (policy_read k p s.0) (ap (option_map (λ (xs : List Policy). policy_as_read p ∷ xs)) (policies_back k ps s.1))

names_kept : (ps : List Policy) → names_of (map policy_as_read ps) ≡ names_of ps
names_kept [] = refl
names_kept (p ∷ ps) = ap (λ (ids : List (List ℕ)). p.id ∷ ids) (names_kept ps)

slots_kept : (ps : List Policy) → list_all (λ (p : Policy). not (has_slot_in_scope p)) (map policy_as_read ps) ≡ list_all (λ (p : Policy). not (has_slot_in_scope p)) ps
slots_kept [] = refl
slots_kept (p ∷ ps) = ap (λ (b : Bool). not (has_slot_in_scope p) && b) (slots_kept ps)

policies_kept : (ps ts : List Policy) → are_policies (map policy_as_read ps) (map policy_as_read ts) ≡ are_policies ps ts
policies_kept ps ts =
    ap₂ (λ (ids : List (List ℕ)) (b : Bool). not (repeats_key ids) && b) (ap₂ (λ (xs ys : List (List ℕ)). xs ++ ys) (names_kept ps) (names_kept ts)) (slots_kept ps)

named : (es : List (List ℕ × Policy)) → AllByRecursion (λ (e : List ℕ × Policy). e.1.id ≡ e.0) es → map (λ (p : Policy). (p.id, p)) (map policy_as_read (map (λ (e : List ℕ × Policy). e.1) es)) ≡ map (at_value policy_as_read) es
named [] h = refl
named (e ∷ es) h = ap₂ (λ (id : List ℕ) (xs : List (List ℕ × Policy)). (id, policy_as_read e.1) ∷ xs) h.0 (named es h.1)

by_name_back : (m : FinMap text_order Policy) → AllByRecursion (λ (e : List ℕ × Policy). e.1.id ≡ e.0) (entries m) → by_own_name (map policy_as_read (values m)) ≡ with_values policy_as_read m
by_name_back m h =
    ap keyed (named (entries m) h) ∙ by_key_sorted (with_values policy_as_read m) (map (at_value policy_as_read) (entries m)) (entries-with_values policy_as_read m)

pub set_read : (k : Known) (set : Policies) → IsLegibleSet k set → set_from k (set_json (values set.policies) (values set.templates)) ≡ Some (set_as_read set)
set_read k set s =
    bind _ _ _ _ (policies_back k (values set.templates) s.templates) (bind _ _ _ _ (policies_back k (values set.policies) s.policies)
    (guarded _ _ _ (policies_kept (values set.policies) (values set.templates) ∙ s.are_policies)
    (ap₂ (λ (ps ts : FinMap text_order Policy). Some (record { policies = ps; templates = ts })) (by_name_back set.policies s.own_names) (by_name_back set.templates s.own_template_names))))

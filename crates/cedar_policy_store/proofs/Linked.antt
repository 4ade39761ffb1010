-- The slots of a template with entities in the place of its slots, and which refusal comes first.
use Rattle.std.proofs.Common.{◌≡◌, ℕ, List, [], ◌∷◌, ◌++◌, Bool, true, false, ◌||◌, not, cond, Option, Some, None, is_some, Result, Ok, Err, IsOkAnd, IsErrAnd, IfOk, IfErr, refl, sym, ap, subst, ◌∙◌, true≢false}
use Rattle.std.proofs.lemmas.List.Elements.{filter-append}
use Rattle.cedar_expressions.specs.declared.atoms.SlotId.{SlotId}
use Rattle.cedar_expressions.specs.declared.atoms.SlotId.TheVariants.{Principal, Resource}
use Rattle.cedar_expressions.specs.declared.entity.EntityUID.{EntityUID}
use Rattle.cedar_expressions.specs.declared.expr.Expr.{Expr}
use Rattle.cedar_expressions.specs.declared.place.Slot.{Slot}
use Rattle.cedar_expressions.specs.declared.slot_entities.SlotEntities.{SlotEntities}
use Rattle.std.specs.Option.{option_map}
use Rattle.cedar_expressions.specs.Copies.{copied}
use Rattle.cedar_expressions.specs.Filled.{entity_for, filled, stays, slots_left}
use Rattle.cedar_expressions.specs.Meaning.{expr_meaning}
use Rattle.cedar_expressions.proofs.FilledAt.{copy_means, copy_slots}
use Rattle.cedar_policy_store.specs.declared.constraints.EntityReference.{EntityReference}
use Rattle.cedar_policy_store.specs.declared.constraints.EntityReference.TheVariants as reference
use Rattle.cedar_policy_store.specs.declared.constraints.PrincipalOrResourceConstraint.{PrincipalOrResourceConstraint}
use Rattle.cedar_policy_store.specs.declared.constraints.PrincipalOrResourceConstraint.TheVariants as constraint
use Rattle.cedar_policy_store.specs.declared.link.LinkError.{LinkError}
use Rattle.cedar_policy_store.specs.declared.link.LinkError.TheVariants as unlinked
use Rattle.cedar_policy_store.specs.declared.template.Template.{Template}
use Rattle.std.specs.FinMap as map
use Rattle.cedar_policy_store.specs.Links.{reference_with, constraint_with, is_same_slot, among_slots, Fits, IsFilled, IsLinked, IsMisfit, IsSlotRefusal, IsLinkRefusal, SetWithLinked}
use Rattle.cedar_policy_store.specs.PolicyMaps.{PolicyMaps, holds_id}
use Rattle.cedar_policy_store.specs.TemplateSlots.{reference_slot, constraint_slot, at_most_one, condition_slots, template_slots}

-- ---- what stays of a scope's slot

of_reference : (es : SlotEntities) (id : SlotId) (entity : Option EntityUID) (r : EntityReference) → entity ≡ entity_for es id → at_most_one (reference_slot id (reference_with entity r)) ≡ slots_left es (at_most_one (reference_slot id r))
of_reference es id entity (reference.EUID own) is = refl
of_reference es id None (reference.Slot mark) is = ap (λ e. cond (not (is_some e)) (at_most_one (reference_slot id (reference.Slot mark))) []) is
of_reference es id (Some e) (reference.Slot mark) is = ap (λ e. cond (not (is_some e)) (at_most_one (reference_slot id (reference.Slot mark))) []) is

of_constraint : (es : SlotEntities) (id : SlotId) (entity : Option EntityUID) (c : PrincipalOrResourceConstraint) → entity ≡ entity_for es id → at_most_one (constraint_slot id (constraint_with entity c)) ≡ slots_left es (at_most_one (constraint_slot id c))
of_constraint es id entity constraint.Any is = refl
of_constraint es id entity (constraint.Eq r) is = of_reference es id entity r is
of_constraint es id entity (constraint.In r) is = of_reference es id entity r is
of_constraint es id entity (constraint.Is t) is = refl
of_constraint es id entity (constraint.IsIn t r) is = of_reference es id entity r is

of_parts : (es : SlotEntities) (principal resource old_principal old_resource : PrincipalOrResourceConstraint) (condition old : Option Expr)
    → principal ≡ constraint_with es.principal old_principal → resource ≡ constraint_with es.resource old_resource
    → condition_slots condition ≡ slots_left es (condition_slots old)
    → at_most_one (constraint_slot Principal principal) ++ (at_most_one (constraint_slot Resource resource) ++ condition_slots condition)
    ≡ slots_left es (at_most_one (constraint_slot Principal old_principal) ++ (at_most_one (constraint_slot Resource old_resource) ++ condition_slots old))
of_parts es principal resource old_principal old_resource condition old p r c =
    let first = ap (λ c. at_most_one (constraint_slot Principal c)) p ∙ of_constraint es Principal es.principal old_principal refl in
    let second = ap (λ c. at_most_one (constraint_slot Resource c)) r ∙ of_constraint es Resource es.resource old_resource refl in
    (λ i. first i ++ (second i ++ c i))
    ∙ (λ i. slots_left es (at_most_one (constraint_slot Principal old_principal)) ++ sym (filter-append (stays es) (at_most_one (constraint_slot Resource old_resource)) (condition_slots old)) i)
    ∙ sym (filter-append (stays es) (at_most_one (constraint_slot Principal old_principal)) (at_most_one (constraint_slot Resource old_resource) ++ condition_slots old))

-- ---- the condition

pub condition_means : (es : SlotEntities) (condition old : Option Expr) → condition ≡ option_map (copied es) old → option_map expr_meaning condition ≡ option_map (λ e. filled es (expr_meaning e)) old
condition_means es condition None is = ap (option_map expr_meaning) is
condition_means es condition (Some e) is = ap (option_map expr_meaning) is ∙ ap (λ v. Some v) (copy_means es (copied es e) e refl)

condition_left : (es : SlotEntities) (condition old : Option Expr) → condition ≡ option_map (copied es) old → condition_slots condition ≡ slots_left es (condition_slots old)
condition_left es condition None is = ap condition_slots is
condition_left es condition (Some e) is = ap condition_slots is ∙ copy_slots es (copied es e) e refl

filled_slots : (es : SlotEntities) (t policy : Template) (id : List ℕ) → IsFilled t id es policy → template_slots policy ≡ slots_left es (template_slots t)
filled_slots es t policy id is =
    of_parts es policy.principal.constraint policy.resource.constraint t.principal.constraint t.resource.constraint policy.condition t.condition is.principal is.resource (condition_left es policy.condition t.condition is.condition)

-- ---- none stays where each has an entity

abbrev Given : SlotEntities → List Slot → Type 0
Given es xs = (id : SlotId) → among_slots id xs ≡ true → is_some (entity_for es id) ≡ true

same_slot : (id : SlotId) → is_same_slot id id ≡ true
same_slot Principal = refl
same_slot Resource = refl

or_left : (a b : Bool) → a ≡ true → (a || b) ≡ true
or_left true b e = refl
or_left false b e = absurd (true≢false (sym e))

or_right : (a b : Bool) → b ≡ true → (a || b) ≡ true
or_right true b e = refl
or_right false b e = e

none_stays : (es : SlotEntities) (xs : List Slot) → Given es xs → slots_left es xs ≡ []
none_stays es [] given = refl
none_stays es (x ∷ xs) given =
    let own : is_some (entity_for es x.id) ≡ true = given x.id (or_left (is_same_slot x.id x.id) (among_slots x.id xs) (same_slot x.id)) in
    ap (λ b. cond (not b) (x ∷ slots_left es xs) (slots_left es xs)) own
    ∙ none_stays es xs (λ id among. given id (or_right (is_same_slot id x.id) (among_slots id xs) among))

all_given : (es : SlotEntities) (xs : List Slot) → Fits xs es Principal → Fits xs es Resource → Given es xs
all_given es xs p r Principal among = sym p ∙ among
all_given es xs p r Resource among = sym r ∙ among

pub no_slots : (es : SlotEntities) (t policy : Template) (id : List ℕ) → IsFilled t id es policy → Fits (template_slots t) es Principal → Fits (template_slots t) es Resource → template_slots policy ≡ []
no_slots es t policy id is p r = filled_slots es t policy id is ∙ none_stays es (template_slots t) (all_given es (template_slots t) p r)

-- ---- refusals

pub principal_refused : (t : Template) (es : SlotEntities) (e : LinkError) → IsMisfit (template_slots t) es Principal e → IsSlotRefusal t es e
principal_refused t es (unlinked.Memory want) x = absurd x
principal_refused t es (unlinked.NoSuchTemplate id) x = absurd x
principal_refused t es (unlinked.Occupied id) x = absurd x
principal_refused t es (unlinked.NoEntity Principal) is = (tt, is)
principal_refused t es (unlinked.NoEntity Resource) is = cc
principal_refused t es (unlinked.NoSlot Principal) is = (tt, is)
principal_refused t es (unlinked.NoSlot Resource) is = cc

pub resource_refused : (t : Template) (es : SlotEntities) (e : LinkError) → Fits (template_slots t) es Principal → IsMisfit (template_slots t) es Resource e → IsSlotRefusal t es e
resource_refused t es (unlinked.Memory want) fits x = absurd x
resource_refused t es (unlinked.NoSuchTemplate id) fits x = absurd x
resource_refused t es (unlinked.Occupied id) fits x = absurd x
resource_refused t es (unlinked.NoEntity Principal) fits is = cc
resource_refused t es (unlinked.NoEntity Resource) fits is = (fits, is)
resource_refused t es (unlinked.NoSlot Principal) fits is = cc
resource_refused t es (unlinked.NoSlot Resource) fits is = (fits, is)

-- ---- in a set

pub link_refused : (old : PolicyMaps) (template id : List ℕ) (es : SlotEntities) (t : Template) (e : LinkError) → Some t ≡ map.get old.templates template → holds_id old id ≡ false → IsSlotRefusal t es e → IsLinkRefusal old template id es e
link_refused old template id es t (unlinked.Memory want) is free x = tt
link_refused old template id es t (unlinked.NoSuchTemplate other) is free x = absurd x
link_refused old template id es t (unlinked.Occupied other) is free x = absurd x
link_refused old template id es t (unlinked.NoEntity slot) is free x = (free, (t, sym is, x))
link_refused old template id es t (unlinked.NoSlot slot) is free x = (free, (t, sym is, x))

pub set_with_linked : (old new : PolicyMaps) (template id : List ℕ) (es : SlotEntities) (t policy : Template) → Some t ≡ map.get old.templates template → holds_id old id ≡ false → IsLinked t id es policy → new ≡ record old { policies = map.insert old.policies policy.id policy } → SetWithLinked old template id es new
set_with_linked old new template id es t policy is free linked added =
    (t, policy, sym is, free, linked, added ∙ ap (λ k. record old { policies = map.insert old.policies k policy }) linked.0.named)

pub refused_on : {E : Type 0} (r : Result E LinkError) (e : LinkError) (Q : LinkError → Type 0) → IsErrAnd r (λ f. f ≡ e) → Q e → IfErr r Q
refused_on (Ok x) e Q is q = tt
refused_on (Err f) e Q is q = rw is q

-- ---- what was made before, beside what is made now

pub kept : {A B E : Type 0} (r : Result B E) (held : A) (both : A × B) → IsOkAnd r (λ one. both ≡ (held, one)) → both.0 ≡ held
kept (Ok one) held both is = ap (λ p. p.0) is
kept (Err e) held both is = absurd is

pub taken : {A B E : Type 0} (P : B → Type 0) (r : Result B E) (held : A) (both : A × B) → IsOkAnd r (λ one. both ≡ (held, one)) → IfOk r P → P both.1
taken P (Ok one) held both is p = subst P (sym (ap (λ q. q.1) is)) p
taken P (Err e) held both is p = absurd is

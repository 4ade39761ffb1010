-- Templates and sets are equal by `==` exactly if what they mean is, places aside.
use Rattle.std.proofs.Common.{◌≡◌, ℕ, Bool, true, false, ◌&&◌, Decides, T, List, [], ◌∷◌, map, Option, Some, None, option_map, refl, sym, ap, ◌∙◌, true≢false, subst, cond}
use Rattle.std.specs.Option.{option_eq}
use Rattle.std.specs.Ordering.{is_lt, eq_by_cmp}
use Rattle.std.specs.Cmp.{first_so}
use Rattle.std.specs.Cmp.Lexicographic.{pointwise, pointwise_decides}
use Rattle.std.specs.FinMap.{FinMap, entries, entries_sorted, entries-from_sorted, is_sorted, same_entries_map, find, get, get-entries}
use Rattle.std.specs.FinMap.Entries.{below_all}
use Rattle.cedar_expressions.proofs.Deciding.{both, through, bare}
use Rattle.cedar_expressions.proofs.EqualParts.{text, text_eq, entity_type}
use Rattle.cedar_expressions.proofs.EqualExprs.{equal_exprs}
use Rattle.cedar_expressions.specs.declared.entity.EntityType.{EntityType}
use Rattle.cedar_expressions.specs.declared.entity.EntityUID.{EntityUID}
use Rattle.cedar_expressions.specs.declared.expr.Expr.{Expr}
use Rattle.cedar_expressions.specs.contracts.entity.EntityTypePartialEq.TheImpl as type_eq
use Rattle.cedar_expressions.specs.contracts.entity.EntityUIDPartialEq.TheImpl as entity_eq
use Rattle.cedar_expressions.specs.contracts.expr.ExprPartialEq.TheImpl as expr_eq
use Rattle.cedar_expressions.specs.Meaning.{unplaced}
use Rattle.cedar_policy_store.specs.contracts.annotation.AnnotationPartialEq.TheImpl as annotation_eq
use Rattle.cedar_policy_store.specs.contracts.effect.Effect as effect
use denote.Enum.Bare.{sameb}
use Rattle.cedar_policy_store.specs.contracts.constraints.EntityReferencePartialEq.TheImpl as reference_eq
use Rattle.cedar_policy_store.specs.contracts.constraints.PrincipalOrResourceConstraintPartialEq.TheImpl as constraint_eq
use Rattle.cedar_policy_store.specs.contracts.constraints.ActionConstraintPartialEq.TheImpl as action_eq
use Rattle.cedar_policy_store.specs.contracts.template.TemplatePartialEq.TheImpl as template_eq
use Rattle.cedar_policy_store.specs.declared.annotation.Annotation.{Annotation}
use Rattle.cedar_policy_store.specs.declared.constraints.EntityReference.{EntityReference}
use Rattle.cedar_policy_store.specs.declared.constraints.EntityReference.TheVariants.{EUID, Slot}
use Rattle.cedar_policy_store.specs.declared.constraints.PrincipalOrResourceConstraint.{PrincipalOrResourceConstraint}
use Rattle.cedar_policy_store.specs.declared.constraints.PrincipalOrResourceConstraint.TheVariants.{Any, Eq, In, Is, IsIn}
use Rattle.cedar_policy_store.specs.declared.constraints.ActionConstraint.{ActionConstraint}
use Rattle.cedar_policy_store.specs.declared.constraints.ActionConstraint.TheVariants as action
use Rattle.cedar_policy_store.specs.declared.template.Template.{Template}
use Rattle.cedar_policy_store.specs.PolicyMaps.{PolicyMaps, same_maps_by}
use Rattle.cedar_policy_store.specs.TextMap.{text_order, same_entry_by, same_map_by}
use Rattle.cedar_policy_store.specs.PlaceFree.{entity, equal_to, inside, typed, typed_inside, at_value, with_values, reference_meaning, constraint_meaning, annotation_value, template_meaning, set_meaning}

-- maps with other values at their keys
module _ {X Y : Type 0} (f : X → Y) where
  below_same : (k : List ℕ) (es : List (List ℕ × X)) → below_all text_order k (map (at_value f) es) ≡ below_all text_order k es
  below_same k [] = refl
  below_same k (e ∷ es) = ap (λ b. is_lt (text_order k e.0) && b) (below_same k es)

  sorted_same : (es : List (List ℕ × X)) → is_sorted text_order (map (at_value f) es) ≡ is_sorted text_order es
  sorted_same [] = refl
  sorted_same (e ∷ es) = λ i. below_same e.0 es i && sorted_same es i

  pub entries-with_values : (m : FinMap text_order X) → entries (with_values f m) ≡ map (at_value f) (entries m)
  entries-with_values m = entries-from_sorted text_order (map (at_value f) (entries m)) (subst T (sym (sorted_same (entries m))) (entries_sorted m))

  pushed : (b : Bool) (x : X) (rest : Option X) → cond b (Some (f x)) (option_map f rest) ≡ option_map f (cond b (Some x) rest)
  pushed true x rest = refl
  pushed false x rest = refl

  found : (q : List ℕ) (es : List (List ℕ × X)) → find text_order q (map (at_value f) es) ≡ option_map f (find text_order q es)
  found q [] = refl
  found q (e ∷ es) = ap (cond (eq_by_cmp text_order q e.0) (Some (f e.1))) (found q es) ∙ pushed (eq_by_cmp text_order q e.0) e.1 (find text_order q es)

  pub get-with_values : (m : FinMap text_order X) (q : List ℕ) → get (with_values f m) q ≡ option_map f (get m q)
  get-with_values m q = get-entries (with_values f m) q ∙ ap (find text_order q) (entries-with_values m) ∙ found q (entries m) ∙ ap (option_map f) (sym (get-entries m q))

  -- where a comparison of values decides whether they are made into the same, that of maps does
  module _ (same : X → X → Bool) (d : (x y : X) → Decides (same x y) (f x ≡ f y)) where
    entry_is : (p q : List ℕ × X) → Decides (same_entry_by same p q) (at_value f p ≡ at_value f q)
    entry_is p q = through (λ e i. (e.0 i, e.1 i)) (λ e. (λ i. (e i).0, λ i. (e i).1)) (both (text_eq p.0 q.0) (same p.1 q.1) (text p.0 q.0) (d p.1 q.1))

    rows : (xs ys : List (List ℕ × X)) → Decides (pointwise (same_entry_by same) xs ys) (map (at_value f) xs ≡ map (at_value f) ys)
    rows [] [] = (λ h. refl, λ e. refl)
    rows [] (y ∷ ys) = (λ h. absurd (true≢false (sym h)), λ e. cc)
    rows (x ∷ xs) [] = (λ h. absurd (true≢false (sym h)), λ e. cc)
    rows (x ∷ xs) (y ∷ ys) = through (λ e i. e.0 i ∷ e.1 i) (λ e. (cc, cc)) (both (same_entry_by same x y) (pointwise (same_entry_by same) xs ys) (entry_is x y) (rows xs ys))

    pub maps_are : (m n : FinMap text_order X) → Decides (same_map_by same m n) (with_values f m ≡ with_values f n)
    maps_are m n =
        through
        (λ e. same_entries_map _ _ (entries-with_values m ∙ e ∙ sym (entries-with_values n)))
        (λ e. sym (entries-with_values m) ∙ ap entries e ∙ entries-with_values n)
        (rows (entries m) (entries n))

-- parts without places
one_entity : (x y : EntityUID) → Decides (entity_eq.ghosts.eq x y) (x ≡ y)
one_entity x y =
    through (λ e i. record { entity_type = e.0 i; eid = record { text = e.1 i } }) (λ e. (λ i. (e i).entity_type, λ i. (e i).eid.text))
    (both (type_eq.ghosts.eq x.entity_type y.entity_type) (text_eq x.eid.text y.eid.text) (entity_type x.entity_type y.entity_type) (text x.eid.text y.eid.text))

module _ {P : Type 0} where
  apart : (P → ⊥) → Decides false P
  apart f = (λ h. absurd (true≢false (sym h)), λ p. absurd (f p))

actions : (x y : ActionConstraint) → Decides (action_eq.ghosts.eq x y) (x ≡ y)
actions action.Any action.Any = (λ h. refl, λ e. refl)
actions (action.Eq a) (action.Eq b) = through (ap action.Eq) (λ e. cc) (one_entity a b)
actions (action.In a) (action.In b) = through (ap action.In) (λ e. cc) (pointwise_decides one_entity a b)
actions x y = apart (λ e. cc)

-- references and constraints: two slots are the same wherever they stand
references : (x y : EntityReference) → Decides (reference_eq.ghosts.eq x y) (reference_meaning x ≡ reference_meaning y)
references (EUID a) (EUID b) = through (ap entity) (λ e. cc) (one_entity a b)
references (Slot a) (Slot b) = (λ h. refl, λ e. refl)
references x y = apart (λ e. cc)

two_parts : (s t : EntityType) (a b : EntityReference) → Decides (type_eq.ghosts.eq s t && reference_eq.ghosts.eq a b) (typed_inside s (reference_meaning a) ≡ typed_inside t (reference_meaning b))
two_parts s t a b =
    through (λ e i. typed_inside (e.0 i) (e.1 i)) (λ e. (cc, cc))
    (both (type_eq.ghosts.eq s t) (reference_eq.ghosts.eq a b) (entity_type s t) (references a b))

constraints : (x y : PrincipalOrResourceConstraint) → Decides (constraint_eq.ghosts.eq x y) (constraint_meaning x ≡ constraint_meaning y)
constraints Any Any = (λ h. refl, λ e. refl)
constraints (Eq a) (Eq b) = through (ap equal_to) (λ e. cc) (references a b)
constraints (In a) (In b) = through (ap inside) (λ e. cc) (references a b)
constraints (Is a) (Is b) = through (ap typed) (λ e. cc) (entity_type a b)
constraints (IsIn s a) (IsIn t b) = two_parts s t a b
constraints x y = apart (λ e. cc)

conditions : (x y : Option Expr) → Decides (option_eq expr_eq.ghosts.eq x y) (option_map unplaced x ≡ option_map unplaced y)
conditions None None = (λ h. refl, λ e. refl)
conditions (Some a) (Some b) = through (ap Some) (λ e. cc) (equal_exprs a b)
conditions x y = apart (λ e. cc)

values_are : (x y : Annotation) → Decides (annotation_eq.ghosts.eq x y) (annotation_value x ≡ annotation_value y)
values_are x y =
    let same = text x.value y.value in
    (λ h. same.0 (first_so (text_eq x.value y.value) true h), λ e. ap (λ b. b && true) (same.1 e))

-- templates
module _ (x y : Template) where
  abbrev id_eq : Bool
  id_eq = text_eq x.id y.id

  abbrev annotations_eq : Bool
  annotations_eq = same_map_by annotation_eq.ghosts.eq x.annotations y.annotations

  abbrev effects_eq : Bool
  effects_eq = sameb effect.the_type x.effect y.effect

  abbrev principals_eq : Bool
  principals_eq = constraint_eq.ghosts.eq x.principal.constraint y.principal.constraint

  abbrev actions_eq : Bool
  actions_eq = action_eq.ghosts.eq x.action y.action

  abbrev resources_eq : Bool
  resources_eq = constraint_eq.ghosts.eq x.resource.constraint y.resource.constraint

  abbrev conditions_eq : Bool
  conditions_eq = option_eq expr_eq.ghosts.eq x.condition y.condition

  pub templates_are : Decides (template_eq.ghosts.eq x y) (template_meaning x ≡ template_meaning y)
  templates_are =
      through
      (λ e i. record { id = e.0 i; annotations = e.1.0 i; effect = e.1.1.0 i; principal = e.1.1.1.0 i; action = e.1.1.1.1.0 i; resource = e.1.1.1.1.1.0 i; condition = e.1.1.1.1.1.1 i })
      (λ e. (λ i. (e i).id, (λ i. (e i).annotations, (λ i. (e i).effect, (λ i. (e i).principal, (λ i. (e i).action, (λ i. (e i).resource, λ i. (e i).condition)))))))
      (both id_eq (annotations_eq && (effects_eq && (principals_eq && (actions_eq && (resources_eq && conditions_eq))))) (text x.id y.id)
      (both annotations_eq (effects_eq && (principals_eq && (actions_eq && (resources_eq && conditions_eq)))) (maps_are annotation_value annotation_eq.ghosts.eq values_are x.annotations y.annotations)
      (both effects_eq (principals_eq && (actions_eq && (resources_eq && conditions_eq))) (bare effect.the_type tt x.effect y.effect)
      (both principals_eq (actions_eq && (resources_eq && conditions_eq)) (constraints x.principal.constraint y.principal.constraint)
      (both actions_eq (resources_eq && conditions_eq) (actions x.action y.action)
      (both resources_eq conditions_eq (constraints x.resource.constraint y.resource.constraint) (conditions x.condition y.condition)))))))

-- sets
pub sets_are : (m n : PolicyMaps) → Decides (same_maps_by template_eq.ghosts.eq m n) (set_meaning m ≡ set_meaning n)
sets_are m n =
    through (λ e i. record { policies = e.0 i; templates = e.1 i }) (λ e. (λ i. (e i).policies, λ i. (e i).templates))
    (both (same_map_by template_eq.ghosts.eq m.policies n.policies) (same_map_by template_eq.ghosts.eq m.templates n.templates)
    (maps_are template_meaning template_eq.ghosts.eq templates_are m.policies n.policies)
    (maps_are template_meaning template_eq.ghosts.eq templates_are m.templates n.templates))

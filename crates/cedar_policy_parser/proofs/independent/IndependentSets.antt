-- Policies and sets don't look at places.
use Rattle.std.proofs.Common.{◌≡◌, ℕ, suc, List, [], ◌∷◌, map, fold, Option, Some, Ok, Err, refl, sym, ap, ap₂, ◌∙◌}
use Rattle.std.specs.Prelude.{unwrap_or}
use Rattle.std.specs.FinMap.{FinMap, insert, empty}
use Rattle.cedar_expressions.specs.Value.{Value}
use Rattle.cedar_policy_store.specs.declared.annotation.Annotation.{Annotation as Kept}
use Rattle.cedar_policy_store.specs.declared.effect.Effect.{Effect}
use Rattle.cedar_policy_store.specs.PlaceFree as free
use Rattle.cedar_policy_store.specs.PlaceFree.{with_values, annotation_value, constraint_meaning}
use Rattle.cedar_policy_store.specs.TextMap.{text_order}
use Rattle.cedar_syntax.specs.declared.cst.Annotation.{Annotation}
use Rattle.cedar_syntax.specs.declared.cst.Policies.{Policies}
use Rattle.cedar_syntax.specs.declared.cst.Policy.{Policy}
use Rattle.cedar_syntax.specs.declared.cst.Policy.TheVariants as trees
use Rattle.cedar_syntax.specs.declared.cst.PolicyImpl.{PolicyImpl}
use Rattle.cedar_syntax.specs.declared.loc.Loc.{Loc}
use Rattle.cedar_grammar.specs.printing.PrintLaw.{SameUpToPlaces}
use Rattle.cedar_syntax.specs.trees.Trees.{Cell}
use Rattle.cedar_syntax.specs.trees.UnlocatedTrees.{bare_cell, bare_cells, unlocated_annotation, BarePolicy, unlocated_policy, unlocated_policies}
use Rattle.cedar_policy_parser.proofs.Alike.{Alike}
use Rattle.cedar_policy_conversion.specs.AnnotationKeys.{AnnotationContent, kept_annotation, with_annotation}
use Rattle.cedar_conversion.specs.strict.Extensions.{Extensions}
use Rattle.cedar_conversion.specs.outcome.Outcome.{Outcome, outcome_value}
use Rattle.cedar_policy_conversion.specs.Policies.{TemplateParts, Given, given_parts, kept_outcome, parts_outcome, template_of, template_outcome, meaning_of, policies_from, with_parts, set_outcome, policies_outcome}
use Rattle.cedar_policy_conversion.specs.PolicyMeaning.{joint_condition, policy_id, with_policy, no_policies}
use Rattle.cedar_policy_conversion.specs.Scope.{Scope}
use Rattle.cedar_policy_parser.proofs.independent.IndependentLeaves.{Equal, Pairs, both_alike, next_alike}
use Rattle.cedar_policy_parser.proofs.independent.IndependentParts.{content_same, effect_same, KeyText, key_text, SameContents, annotations_same, conditions_same, heads, tails}
use Rattle.cedar_policy_parser.proofs.independent.IndependentScopes.{SameScope, scope_same}
use Rattle.cedar_policy_conversion.proofs.MappedValues.{with-insert}

-- ---- the annotations of a policy, by their keys

abbrev SameKept : FinMap text_order Kept → FinMap text_order Kept → Type 0
SameKept m k = with_values annotation_value m ≡ with_values annotation_value k

abbrev text_in : KeyText → List ℕ
text_in p = unwrap_or p.1 []

more_kept : (m k : FinMap text_order Kept) (a b : AnnotationContent) → SameKept m k → key_text a ≡ key_text b → SameKept (with_annotation m a) (with_annotation k b)
more_kept m k a b h e =
    with-insert annotation_value m a.key (kept_annotation a)
    ∙ ap₂ (λ (g : FinMap text_order (List ℕ)) (p : KeyText). insert g p.0 (text_in p)) h e
    ∙ sym (with-insert annotation_value k b.key (kept_annotation b))

kept_from : (m k : FinMap text_order Kept) (xs ys : List AnnotationContent) → SameKept m k → SameContents xs ys → SameKept (fold with_annotation m xs) (fold with_annotation k ys)
kept_from m k [] [] h e = h
kept_from m k [] (y ∷ ys) h e = absurd (cc)
kept_from m k (x ∷ xs) [] h e = absurd (cc)
kept_from m k (x ∷ xs) (y ∷ ys) h e = kept_from (with_annotation m x) (with_annotation k y) xs ys (more_kept m k x y h (heads e)) (tails e)

kept_same : (ns ms : List (Cell Annotation)) → bare_cells unlocated_annotation ns ≡ bare_cells unlocated_annotation ms → Alike SameKept (kept_outcome ns) (kept_outcome ms)
kept_same ns ms e = next_alike SameContents SameKept _ _ _ _ (annotations_same ns ms e) (λ xs ys h. kept_from empty empty xs ys refl h)

-- ---- policies

abbrev SameMeaning : TemplateParts → TemplateParts → Type 0
SameMeaning s t = meaning_of s ≡ meaning_of t

abbrev SameGiven : Given → Given → Type 0
SameGiven = Pairs (Pairs Equal SameKept) (Pairs SameScope Equal)

parts_same : (e : Extensions) (x y : PolicyImpl) → unlocated_policy (trees.Policy x) ≡ unlocated_policy (trees.Policy y) → Alike SameGiven (parts_outcome e x) (parts_outcome e y)
parts_same e x y h =
    both_alike (Pairs Equal SameKept) (Pairs SameScope Equal) _ _ _ _
    (both_alike Equal SameKept _ _ _ _ (effect_same x.effect y.effect (ap (λ (b : BarePolicy). b.effect) h)) (kept_same x.annotations y.annotations (ap (λ (b : BarePolicy). b.annotations) h)))
    (both_alike SameScope Equal _ _ _ _ (scope_same e x y (ap (λ (b : BarePolicy). b.elements) h)) (conditions_same e x.conds y.conds (ap (λ (b : BarePolicy). b.clauses) h)))

-- what given parts mean, of what their places leave
abbrev meant : List ℕ → Effect → FinMap text_order (List ℕ) → free.Constraint → Scope → free.Constraint → List Value → free.Policy
meant id effect notes principal s resource cs = record { id = id; annotations = notes; effect = effect; principal = principal; action = s.1; resource = resource; condition = joint_condition cs }

given_same : (id : List ℕ) (p q : Option Loc) (g h : Given) → SameGiven g h → SameMeaning (given_parts id p g) (given_parts id q h)
given_same id p q g h s =
    let all : Given → Effect → FinMap text_order (List ℕ) → free.Policy = λ k effect notes. meant id effect notes (constraint_meaning k.1.0.0.constraint) k.1.0 (constraint_meaning k.1.0.2.constraint) k.1.1 in
    rw (s.0.0, s.0.1, s.1.0.0, s.1.0.1, s.1.0.2, s.1.1) refl

template_of_same : (e : Extensions) (id : List ℕ) (p q : Option Loc) (x y : Policy) → unlocated_policy x ≡ unlocated_policy y → Alike SameMeaning (template_of e id p x) (template_of e id q y)
template_of_same e id p q (trees.Policy x) (trees.Policy y) h = next_alike SameGiven SameMeaning _ _ _ _ (parts_same e x y h) (λ a b s. given_same id p q a b s)

template_same : (e : Extensions) (id : List ℕ) (n m : Cell Policy) → bare_cell unlocated_policy n ≡ bare_cell unlocated_policy m → Alike SameMeaning (template_outcome e id n) (template_outcome e id m)
template_same e id n m h = content_same SameMeaning unlocated_policy (template_of e id) n.loc m.loc (template_of_same e id n.loc m.loc) n.node m.node (ap (λ (c : Cell BarePolicy). c.node) h)

-- ---- sets

abbrev SameMeanings : List TemplateParts → List TemplateParts → Type 0
SameMeanings xs ys = map meaning_of xs ≡ map meaning_of ys

from_same : (e : Extensions) (i : ℕ) (ns ms : List (Cell Policy)) → bare_cells unlocated_policy ns ≡ bare_cells unlocated_policy ms → Alike SameMeanings (policies_from e i ns) (policies_from e i ms)
from_same e i [] [] h = refl
from_same e i [] (m ∷ ms) h = absurd (cc)
from_same e i (n ∷ ns) [] h = absurd (cc)
from_same e i (n ∷ ns) (m ∷ ms) h =
    next_alike (Pairs SameMeaning SameMeanings) SameMeanings _ _ _ _ (both_alike SameMeaning SameMeanings _ _ _ _ (template_same e (policy_id i) n m (heads h)) (from_same e (suc i) ns ms (tails h))) (λ x y k. ap₂ (λ (a : free.Policy) (b : List free.Policy). a ∷ b) k.0 k.1)

folded : (set : free.Policies) (ts : List TemplateParts) → fold with_parts set ts ≡ fold with_policy set (map meaning_of ts)
folded set [] = refl
folded set (t ∷ ts) = folded (with_policy set (meaning_of t)) ts

set_same : (e : Extensions) (x y : Policies) → unlocated_policies x ≡ unlocated_policies y → Alike Equal (set_outcome e x.0) (set_outcome e y.0)
set_same e x y h = next_alike SameMeanings Equal _ _ _ _ (from_same e 0 x.0 y.0 h) (λ s t k. folded no_policies s ∙ ap (fold with_policy no_policies) k ∙ sym (folded no_policies t))

given_too : {X : Type 0} (o p : Outcome X) (x : X) → Alike Equal o p → o ≡ Ok x → p ≡ Ok x
given_too (Ok a) (Ok b) x h e = ap Ok (sym h) ∙ e
given_too (Ok a) (Err gs) x h e = absurd h
given_too (Err fs) p x h e = absurd (cc)

sets_alike : (e : Extensions) (n m : Cell Policies) → SameUpToPlaces unlocated_policies n m → Alike Equal (policies_outcome e n) (policies_outcome e m)
sets_alike e n m h = content_same Equal unlocated_policies (λ (p : Option Loc) (ps : Policies). set_outcome e ps.0) n.loc m.loc (set_same e) n.node m.node h

pub sets_same : (e : Extensions) (n m : Cell Policies) (set : free.Policies) → bare_cell unlocated_policies n ≡ bare_cell unlocated_policies m → policies_outcome e n ≡ Ok set → policies_outcome e m ≡ Ok set
sets_same e n m set h = given_too (policies_outcome e n) (policies_outcome e m) set (sets_alike e n m (ap (λ (c : Cell (List (Cell BarePolicy))). c.node) h))

equal_values : {X : Type 0} (o p : Outcome X) → Alike Equal o p → outcome_value o ≡ outcome_value p
equal_values (Ok a) (Ok b) h = ap Some h
equal_values (Ok a) (Err gs) h = absurd h
equal_values (Err fs) (Ok b) h = absurd h
equal_values (Err fs) (Err gs) h = refl

pub no_place_seen : (e : Extensions) (n m : Cell Policies) → SameUpToPlaces unlocated_policies n m → outcome_value (policies_outcome e n) ≡ outcome_value (policies_outcome e m)
no_place_seen e n m h = equal_values (policies_outcome e n) (policies_outcome e m) (sets_alike e n m h)

-- The faults of what is joined are those of the parts, in order.
use Rattle.std.proofs.Common.{◌≡◌, ℕ, suc, List, [], ◌∷◌, ◌++◌, fold, Option, Some, None, Ok, Err, refl, sym, ◌∙◌, ap, append_assoc, append-nil}
use Rattle.std.specs.List.{flat_map}
use Rattle.cedar_syntax.specs.declared.cst.Annotation.{Annotation}
use Rattle.cedar_syntax.specs.declared.cst.Policy.{Policy}
use Rattle.cedar_syntax.specs.declared.cst.Policy.TheVariants as trees
use Rattle.cedar_syntax.specs.declared.cst.PolicyImpl.{PolicyImpl}
use Rattle.cedar_syntax.specs.declared.loc.Loc.{Loc}
use Rattle.cedar_syntax.specs.declared.node.Node.{Node}
use Rattle.cedar_policy_conversion.specs.AnnotationKeys.{AnnotationContent, annotation_outcome, converted_key, with_new_key, Gathering, gathering_with, gathering_with_node, empty_gathering, annotations_outcome}
use Rattle.cedar_policy_parser.specs.faults.Blocks.{faults_from, annotation_faults, policy_faults, set_faults}
use Rattle.cedar_policy_conversion.specs.Conditions.{condition_outcome, conditions_outcome}
use Rattle.cedar_conversion.specs.strict.Extensions.{Extensions}
use Rattle.cedar_conversion.specs.parts.Names.{content_outcome, all_of}
use Rattle.cedar_conversion.specs.outcome.Outcome.{Outcome, both, next, item_more}
use Rattle.cedar_policy_conversion.specs.Policies.{effect_outcome, kept_outcome, parts_outcome, template_of, template_outcome, policies_from, set_outcome}
use Rattle.cedar_policy_conversion.specs.PolicyMeaning.{policy_id}
use Rattle.cedar_policy_conversion.specs.Scope.{scope_outcome}

-- ---- the joins

pub both_told : {X Y : Type 0} (x : Outcome X) (y : Outcome Y) → faults_from (both x y) ≡ faults_from x ++ faults_from y
both_told (Ok x) (Ok y) = refl
both_told (Ok x) (Err gs) = refl
both_told (Err fs) (Ok y) = sym (append-nil fs)
both_told (Err fs) (Err gs) = refl

-- what is made of what is given tells nothing more
pub made_told : {X Y : Type 0} (x : Outcome X) (g : X → Y) → faults_from (next x (λ a. Ok (g a))) ≡ faults_from x
made_told (Ok x) g = refl
made_told (Err fs) g = refl

-- ---- lists

all_told : {X Y : Type 0} (g : X → Outcome Y) (xs : List X) → faults_from (all_of g xs) ≡ flat_map (λ x. faults_from (g x)) xs
all_told g [] = refl
all_told g (x ∷ xs) = made_told (both (g x) (all_of g xs)) (λ p. p.0 ∷ p.1) ∙ both_told (g x) (all_of g xs) ∙ ap (λ fs. faults_from (g x) ++ fs) (all_told g xs)

item_told : {X : Type 0} (xs : Outcome (List X)) (x : Outcome X) → faults_from (item_more xs x) ≡ faults_from xs ++ faults_from x
item_told xs x = made_told (both xs x) (λ p. p.0 ++ p.1 ∷ []) ∙ both_told xs x

gathered_told : (g : Gathering) (ns : List (Node (Option Annotation))) → faults_from (fold gathering_with_node g ns).all ≡ faults_from g.all ++ annotation_faults g.keys ns
gathered_told g [] = sym (append-nil (faults_from g.all))
gathered_told g (n ∷ ns) =
    let a : Outcome AnnotationContent = annotation_outcome n in
    gathered_told (gathering_with g a) ns ∙ ap (λ fs. fs ++ annotation_faults (g.keys ++ converted_key a) ns) (item_told g.all (next a (with_new_key g.keys)))
    ∙ append_assoc (faults_from g.all) (faults_from (next a (with_new_key g.keys))) (annotation_faults (g.keys ++ converted_key a) ns)

kept_told : (ns : List (Node (Option Annotation))) → faults_from (kept_outcome ns) ≡ annotation_faults [] ns
kept_told ns = made_told (annotations_outcome ns) _ ∙ gathered_told empty_gathering ns

-- ---- a policy

pub joined_told : {A B C D : Type 0} (a : Outcome A) (b : Outcome B) (c : Outcome C) (d : Outcome D) → faults_from (both (both a b) (both c d)) ≡ faults_from a ++ faults_from b ++ faults_from c ++ faults_from d
joined_told a b c d =
    both_told (both a b) (both c d) ∙ ap (λ fs. fs ++ faults_from (both c d)) (both_told a b) ∙ ap (λ fs. (faults_from a ++ faults_from b) ++ fs) (both_told c d)
    ∙ sym (append_assoc (faults_from a ++ faults_from b) (faults_from c) (faults_from d))

pub policy_blocks : (e : Extensions) (id : List ℕ) (place : Option Loc) (p : PolicyImpl) → faults_from (template_of e id place (trees.Policy p)) ≡ policy_faults e p
policy_blocks e id place p =
    made_told (parts_outcome e p) _ ∙ joined_told (effect_outcome p.effect) (kept_outcome p.annotations) (scope_outcome e p) (conditions_outcome e p.conds)
    ∙ ap (λ fs. faults_from (effect_outcome p.effect) ++ fs ++ faults_from (scope_outcome e p) ++ faults_from (conditions_outcome e p.conds)) (kept_told p.annotations)
    ∙ ap (λ fs. faults_from (effect_outcome p.effect) ++ annotation_faults [] p.annotations ++ faults_from (scope_outcome e p) ++ fs) (all_told (condition_outcome e) p.conds)

-- ---- a set

of_any_name : (e : Extensions) (i j : List ℕ) (place : Option Loc) (p : Policy) → faults_from (template_of e i place p) ≡ faults_from (template_of e j place p)
of_any_name e i j place (trees.Policy p) = made_told (parts_outcome e p) _ ∙ sym (made_told (parts_outcome e p) _)

in_any_name : (e : Extensions) (i j : List ℕ) (place : Option Loc) (c : Option Policy) → faults_from (next (content_outcome place c) (template_of e i place)) ≡ faults_from (next (content_outcome place c) (template_of e j place))
in_any_name e i j place None = refl
in_any_name e i j place (Some p) = of_any_name e i j place p

from_told : (e : Extensions) (id : List ℕ) (i : ℕ) (ps : List (Node (Option Policy))) → faults_from (policies_from e i ps) ≡ flat_map (λ p. faults_from (template_outcome e id p)) ps
from_told e id i [] = refl
from_told e id i (p ∷ ps) =
    made_told (both (template_outcome e (policy_id i) p) (policies_from e (suc i) ps)) (λ q. q.0 ∷ q.1) ∙ both_told (template_outcome e (policy_id i) p) (policies_from e (suc i) ps)
    ∙ ap (λ fs. fs ++ faults_from (policies_from e (suc i) ps)) (in_any_name e (policy_id i) id p.loc p.node) ∙ ap (λ fs. faults_from (template_outcome e id p) ++ fs) (from_told e id (suc i) ps)

pub set_blocks : (e : Extensions) (id : List ℕ) (ns : List (Node (Option Policy))) → faults_from (set_outcome e ns) ≡ set_faults e id ns
set_blocks e id ns = made_told (policies_from e 0 ns) _ ∙ from_told e id 0 ns

-- No slot stands in the condition of a template that a tree gives.
use Rattle.std.proofs.Common.{◌≡◌, ℕ, List, [], ◌∷◌, ◌++◌, Option, Some, None, Ok, refl, sym, ap, ◌∙◌}
use Rattle.std.specs.Option.{option_map}
use Rattle.cedar_expressions.specs.declared.expr.Expr.{Expr}
use Rattle.cedar_expressions.specs.Meaning.{expr_meaning, unplaced}
use Rattle.cedar_expressions.specs.Value.{Value}
use Rattle.cedar_policy_store.specs.declared.template.Template.{Template}
use Rattle.cedar_policy_store.specs.TemplateSlots.{condition_slots}
use Rattle.cedar_syntax.specs.declared.cst.Cond.{Cond}
use Rattle.cedar_syntax.specs.declared.cst.Policy.{Policy}
use Rattle.cedar_syntax.specs.declared.cst.Policy.TheVariants as trees
use Rattle.cedar_syntax.specs.declared.loc.Loc.{Loc}
use Rattle.cedar_syntax.specs.declared.node.Node.{Node}
use Rattle.cedar_policy_conversion.specs.Conditions.{clause, condition_of, condition_outcome, condition_word, conditions_outcome, is_when, slots_outcome, without_slots}
use Rattle.cedar_conversion.specs.strict.Extensions.{Extensions}
use Rattle.cedar_conversion.specs.parts.Names.{all_of, content_outcome}
use Rattle.cedar_conversion.specs.outcome.Outcome.{both}
use Rattle.cedar_policy_conversion.specs.Policies as k
use Rattle.cedar_policy_conversion.specs.PolicyMeaning.{joint_condition, conjunction_value}
use Rattle.cedar_policy_conversion.specs.Scope.{scope_outcome}
use Rattle.cedar_expressions.specs.Slots.{Slots, slots_in, slots_of}
use Rattle.cedar_policy_conversion.proofs.ConditionValues.{value_free, no_slots}
use Rattle.cedar_conversion.proofs.Inverted.{ok_is, next_ok, both_ok}
use Rattle.cedar_policy_conversion.proofs.SlotFree.{none_hidden}
use Rattle.cedar_policy_conversion.specs.machines.PolicyViews.{IsConditionFree}

condition_free : (e : Extensions) (n : Node (Option Cond)) (c : Value) → condition_outcome e n ≡ Ok c → slots_of c ≡ []
condition_free e n c h =
    let a = next_ok (content_outcome n.loc n.node) (condition_of e n.loc) c h in
    let f = next_ok (is_when a.0.cond) _ c a.2 in
    let g = next_ok (clause e n.loc a.0.cond.node a.0.expr) (without_slots n.loc f.0) c f.2 in
    let u = next_ok (slots_outcome n.loc (condition_word f.0) g.0) _ c g.2 in
    ap slots_of (sym (ok_is u.2)) ∙ value_free f.0 g.0 (no_slots n.loc (condition_word f.0) (slots_of g.0) u.0 u.1)

abbrev AllFree : List Value → Type 0
AllFree [] = Unit {0}
AllFree (c ∷ cs) = (slots_of c ≡ []) × AllFree cs

free_as : (cs ds : List Value) → cs ≡ ds → AllFree cs → AllFree ds
free_as cs ds h f = rw (← h) f

conditions_free : (e : Extensions) (ps : List (Node (Option Cond))) (cs : List Value) → all_of (condition_outcome e) ps ≡ Ok cs → AllFree cs
conditions_free e [] cs h = free_as [] cs (ok_is h) tt
conditions_free e (p ∷ ps) cs h =
    let a = next_ok (both (condition_outcome e p) (all_of (condition_outcome e) ps)) _ cs h in
    let b = both_ok (condition_outcome e p) (all_of (condition_outcome e) ps) a.0 a.1 in
    free_as (a.0.0 ∷ a.0.1) cs (ok_is a.2) (condition_free e p a.0.0 b.0, conditions_free e ps a.0.1 b.1)

folded_free : (c : Value) (cs : List Value) → slots_of c ≡ [] → AllFree cs → slots_of (conjunction_value c cs) ≡ []
unfolding slots_of
folded_free c [] h f = h
folded_free c (d ∷ ds) h f = λ i. h i ++ folded_free d ds f.0 f.1 i

abbrev value_slots : Option Value → Slots
value_slots None = []
value_slots (Some c) = slots_of c

meant_free : (cs : List Value) → AllFree cs → value_slots (joint_condition cs) ≡ []
meant_free [] f = refl
meant_free (c ∷ cs) f = folded_free c cs f.0 f.1

given_free : (e : Extensions) (id : List ℕ) (place : Option Loc) (p : Policy) (t : k.TemplateParts) → k.template_of e id place p ≡ Ok t → value_slots t.condition ≡ []
given_free e id place (trees.Policy p) t h =
    let a = next_ok (k.parts_outcome e p) _ t h in
    let b = both_ok (both (k.effect_outcome p.effect) (k.kept_outcome p.annotations)) (both (scope_outcome e p) (conditions_outcome e p.conds)) a.0 a.1 in
    let c = both_ok (scope_outcome e p) (conditions_outcome e p.conds) a.0.1 b.1 in
    ap (λ u. value_slots u.condition) (sym (ok_is a.2)) ∙ meant_free a.0.1.1 (conditions_free e p.conds a.0.1.1 c.1)

held_free : (c : Option Expr) → value_slots (option_map unplaced c) ≡ [] → condition_slots c ≡ []
unfolding unplaced slots_in
held_free None h = refl
held_free (Some c) h = none_hidden (expr_meaning c) h

-- a template that a tree gives
pub template_free : (e : Extensions) (id : List ℕ) (n : Node (Option Policy)) (t : Template) → k.template_outcome e id n ≡ Ok (k.template_parts t) → IsConditionFree t
template_free e id n t h =
    let a = next_ok (content_outcome n.loc n.node) (k.template_of e id n.loc) (k.template_parts t) h in
    held_free t.condition (given_free e id n.loc a.0 (k.template_parts t) a.2)

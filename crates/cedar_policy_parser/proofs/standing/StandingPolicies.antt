-- Where the faults of policies and of sets of them stand.
use Rattle.std.proofs.Common.{◌≡◌, ℕ, suc, nat_le, ◌+◌, ◌≤◌, ◌&&◌, Bool, true, false, cond, List, [], ◌∷◌, fold, map, Option, Some, None, refl, arith}
use Rattle.std.specs.List.{All}
use Rattle.cedar_expressions.specs.declared.place.Slot.{Slot}
use Rattle.cedar_expressions.specs.declared.place.Place.{Place}
use Rattle.cedar_syntax.specs.declared.loc.Loc.{Loc}
use Rattle.cedar_syntax.specs.declared.node.Node.{Node}
use Rattle.cedar_syntax.specs.declared.cst.Annotation.{Annotation}
use Rattle.cedar_syntax.specs.declared.cst.Cond.{Cond}
use Rattle.cedar_syntax.specs.declared.cst.Expr.{Expr}
use Rattle.cedar_syntax.specs.declared.cst.Ident.{Ident}
use Rattle.cedar_syntax.specs.declared.cst.Ident.TheVariants as words
use Rattle.cedar_syntax.specs.declared.cst.Policies.{Policies}
use Rattle.cedar_syntax.specs.declared.cst.Policy.{Policy}
use Rattle.cedar_syntax.specs.declared.cst.Policy.TheVariants as trees
use Rattle.cedar_syntax.specs.declared.cst.Str.{Str}
use Rattle.cedar_syntax.specs.trees.Forms.{located, expr_form}
use Rattle.cedar_policy_conversion.specs.AnnotationKeys.{AnnotationContent, value_text_outcome, key_value_outcome, annotation_outcome, has_key, with_new_key, Gathering, gathering_with, gathering_with_node, empty_gathering, annotations_outcome}
use Rattle.cedar_policy_conversion.specs.Conditions.{is_when_of, is_when, clause, condition_slot_fault, condition_word, slots_outcome, condition_of, condition_outcome, conditions_outcome}
use Rattle.cedar_conversion.specs.outcome.Places.{lies_within, bytes_at, place_within}
use Rattle.cedar_conversion.specs.outcome.Conversion.{value_outcome}
use Rattle.cedar_conversion.specs.parts.Entities.{id_outcome}
use Rattle.cedar_conversion.specs.strict.Extensions.{Extensions}
use Rattle.cedar_conversion.specs.parts.Names.{any_ident}
use Rattle.cedar_conversion.specs.outcome.Outcome.{Outcome, next, duplicate_annotation, invalid_condition, empty_clause, slots_in_condition_clause, invalid_effect, item_more}
use Rattle.cedar_policy_conversion.specs.Policies.{effect_of, effect_outcome, kept_outcome, parts_outcome, template_of, template_outcome, policies_from, set_outcome, policies_outcome}
use Rattle.cedar_policy_conversion.specs.PolicyMeaning.{policy_id}
use Rattle.cedar_policy_conversion.specs.Scope.{scope_outcome}
use Rattle.cedar_policy_parser.specs.faults.Standing.{LiesWithin}
use Rattle.cedar_expressions.specs.Slots.{slots_of}
use Rattle.cedar_policy_parser.proofs.standing.Standing.{Origin, by_hand, parsed, LiesIn, IsTold, KindWithin, weaker, Stands, Anything, alone, one_before, no_faults, both_any, next_stands, then_stands, if_stands}
use Rattle.cedar_policy_parser.proofs.standing.StandingLeaves.{filled_then, first_holds, any_stands, all_stand, id_stands}
use Rattle.cedar_policy_parser.proofs.standing.StandingScopes.{scope_stands, unless_told_stands}
use Rattle.cedar_policy_parser.proofs.standing.StandingTrees.{wanted_stands}
use Rattle.cedar_policy_parser.proofs.tidy.Tidy.{NodeTidy, Each, IdentHeld, IdentTidy}
use Rattle.cedar_policy_parser.proofs.tidy.TidyPolicies.{IfThere, ExprTidy, AnnotationTidy, CondTidy, PolicyTidy, PoliciesTidy}

-- ---- annotations

text_stands : (w : Origin) (p : Option Loc) (c : Option (Node (Option Str))) → LiesIn w p → IfThere (NodeTidy w Anything) c → Stands IsTold w Anything (value_text_outcome p c)
text_stands w p (Some n) k h = then_stands IsTold w Anything (id_outcome p n) _ (weaker w Anything (id_outcome p n) (id_stands w p n k h)) (λ text. tt)
text_stands w p None k h = tt

-- what an annotation gives has its place
abbrev KeptWithin : Origin → AnnotationContent → Type 0
KeptWithin w a = LiesIn w a.place

pair_stands : (w : Origin) (p : Option Loc) (a : Annotation) → LiesIn w p → AnnotationTidy w a → Stands IsTold w (KeptWithin w) (key_value_outcome p a)
pair_stands w p a k h = then_stands IsTold w (KeptWithin w) _ _ (both_any IsTold w (any_ident a.key) (value_text_outcome p a.value) (weaker w Anything (any_ident a.key) (any_stands w a.key h.0)) (text_stands w p a.value k h.1)) (λ q. k)

annotation_stands : (w : Origin) (n : Node (Option Annotation)) → NodeTidy w (AnnotationTidy w) n → Stands IsTold w (KeptWithin w) (annotation_outcome n)
annotation_stands w n h = filled_then IsTold w n.loc (AnnotationTidy w) (KeptWithin w) n.node (key_value_outcome n.loc) h (λ e. e) (λ a i. pair_stands w n.loc a h.0 i)

new_key_stands : (w : Origin) (keys : List (List ℕ)) (a : AnnotationContent) → KeptWithin w a → Stands IsTold w Anything (with_new_key keys a)
new_key_stands w keys a h = if_stands IsTold w Anything (has_key keys a.key) _ _ (alone IsTold w duplicate_annotation a.place tt h) tt

-- an annotation behind others with these keys
pub new_annotation_stands : (w : Origin) (keys : List (List ℕ)) (n : Node (Option Annotation)) → NodeTidy w (AnnotationTidy w) n → Stands IsTold w Anything (next (annotation_outcome n) (with_new_key keys))
new_annotation_stands w keys n h = next_stands IsTold w (KeptWithin w) Anything (annotation_outcome n) (with_new_key keys) (annotation_stands w n h) (new_key_stands w keys)

item_stands : {X : Type 0} (w : Origin) (xs : Outcome (List X)) (x : Outcome X) → Stands IsTold w Anything xs → Stands IsTold w Anything x → Stands IsTold w Anything (item_more xs x)
item_stands w xs x h k = then_stands IsTold w Anything _ _ (both_any IsTold w xs x h k) (λ p. tt)

gathered_stand : (w : Origin) (g : Gathering) (ns : List (Node (Option Annotation))) → Stands IsTold w Anything g.all → Each (NodeTidy w (AnnotationTidy w)) ns → Stands IsTold w Anything (fold gathering_with_node g ns).all
gathered_stand w g [] h k = h
gathered_stand w g (n ∷ ns) h k =
    gathered_stand w (gathering_with g (annotation_outcome n)) ns
    (item_stands w g.all (next (annotation_outcome n) (with_new_key g.keys)) h (new_annotation_stands w g.keys n k.0)) k.1

pub annotations_stand : (w : Origin) (ns : List (Node (Option Annotation))) → Each (NodeTidy w (AnnotationTidy w)) ns → Stands IsTold w Anything (annotations_outcome ns)
annotations_stand w ns h = gathered_stand w empty_gathering ns tt h

kept_stand : (w : Origin) (ns : List (Node (Option Annotation))) → Each (NodeTidy w (AnnotationTidy w)) ns → Stands IsTold w Anything (kept_outcome ns)
kept_stand w ns h = then_stands IsTold w Anything (annotations_outcome ns) _ (annotations_stand w ns h) (λ all. tt)

-- ---- conditions

second_holds : (a b : Bool) → (a && b) ≡ true → b ≡ true
second_holds true b e = e
second_holds false b e = cc

le_of : (a b : ℕ) → nat_le a b ≡ true → a ≤ b
le_of a b h = grind (arith, h)

bytes_in : (outer loc : Loc) (q : Place) (b : Bool) → lies_within loc q ≡ b → LiesWithin (Some outer) (Some loc) → LiesWithin (Some outer) (Some (cond b (bytes_at loc q) loc))
bytes_in outer loc q false e h = h
bytes_in outer loc q true e h =
    let a = h.1 in let b = h.2 in
    let c = le_of _ _ (first_holds (nat_le loc.span.offset q.offset) (nat_le (q.offset + q.length) (loc.span.offset + loc.span.len)) e) in
    let d = le_of _ _ (second_holds (nat_le loc.span.offset q.offset) (nat_le (q.offset + q.length) (loc.span.offset + loc.span.len)) e) in
    (h.0, omega arith, omega arith)

-- where a slot stands within the condition, its fault does
found_within : (outer p : Option Loc) (q : Option Place) → LiesWithin outer p → LiesWithin outer (place_within p q)
found_within outer None q h = h
found_within outer (Some loc) None h = h
found_within None (Some loc) (Some q) h = h
found_within (Some outer) (Some loc) (Some q) h = bytes_in outer loc q (lies_within loc q) refl h

found_in : (w : Origin) (p : Option Loc) (q : Option Place) → LiesIn w p → LiesIn w (place_within p q)
found_in by_hand p q h = tt
found_in (parsed outer) p q h = found_within outer p q h

slots_within : (w : Origin) (p : Option Loc) (word : List ℕ) (slots : List Slot) → LiesIn w p → All (KindWithin IsTold w) (map (condition_slot_fault p word) slots)
slots_within w p word [] h = no_faults IsTold w
slots_within w p word (s ∷ slots) h = one_before IsTold w slots_in_condition_clause (place_within p s.place) _ _ tt (found_in w p s.place h) (slots_within w p word slots h)

when_of_stands : (w : Origin) (p : Option Loc) (i : Ident) → LiesIn w p → Stands IsTold w Anything (is_when_of p i)
when_of_stands w p words.When h = tt
when_of_stands w p words.Unless h = tt
when_of_stands w p i h = alone IsTold w invalid_condition p tt h

when_stands : (w : Origin) (n : Node (Option Ident)) → IdentTidy w n → Stands IsTold w Anything (is_when n)
when_stands w n h = filled_then IsTold w n.loc (IdentHeld w) Anything n.node (is_when_of n.loc) h (λ e. e) (λ i _. when_of_stands w n.loc i h.0)

clause_stands : (e : Extensions) (w : Origin) (p : Option Loc) (i : Option Ident) (c : Option (Node (Option Expr))) → LiesIn w p → IfThere (ExprTidy w) c → Stands IsTold w Anything (clause e p i c)
clause_stands e w p i (Some n) k h = weaker w Anything (value_outcome e (located expr_form n)) (wanted_stands e w (located expr_form n) h)
clause_stands e w p i None k h = alone IsTold w empty_clause p tt k

condition_of_stands : (e : Extensions) (w : Origin) (p : Option Loc) (c : Cond) → LiesIn w p → CondTidy w c → Stands IsTold w Anything (condition_of e p c)
condition_of_stands e w p c k h =
    then_stands IsTold w Anything (is_when c.cond) _ (when_stands w c.cond h.0)
    (λ when. then_stands IsTold w Anything (clause e p c.cond.node c.expr) _ (clause_stands e w p c.cond.node c.expr k h.1)
    (λ x. then_stands IsTold w Anything (slots_outcome p (condition_word when) x) _ (unless_told_stands w _ (slots_within w p (condition_word when) (slots_of x) k)) (λ _. tt)))

pub condition_stands : (e : Extensions) (w : Origin) (n : Node (Option Cond)) → NodeTidy w (CondTidy w) n → Stands IsTold w Anything (condition_outcome e n)
condition_stands e w n h = filled_then IsTold w n.loc (CondTidy w) Anything n.node (condition_of e n.loc) h (λ e. e) (λ c i. condition_of_stands e w n.loc c h.0 i)

conditions_stand : (e : Extensions) (w : Origin) (cs : List (Node (Option Cond))) → Each (NodeTidy w (CondTidy w)) cs → Stands IsTold w Anything (conditions_outcome e cs)
conditions_stand e w cs h = all_stand IsTold w (NodeTidy w (CondTidy w)) (condition_outcome e) cs (condition_stands e w) h

-- ---- policies

effect_of_stands : (w : Origin) (p : Option Loc) (i : Ident) → LiesIn w p → Stands IsTold w Anything (effect_of p i)
effect_of_stands w p words.Permit h = tt
effect_of_stands w p words.Forbid h = tt
effect_of_stands w p i h = alone IsTold w invalid_effect p tt h

pub effect_stands : (w : Origin) (n : Node (Option Ident)) → IdentTidy w n → Stands IsTold w Anything (effect_outcome n)
effect_stands w n h = filled_then IsTold w n.loc (IdentHeld w) Anything n.node (effect_of n.loc) h (λ e. e) (λ i _. effect_of_stands w n.loc i h.0)

template_of_stands : (e : Extensions) (w : Origin) (id : List ℕ) (p : Option Loc) (x : Policy) → PolicyTidy w x → Stands IsTold w Anything (template_of e id p x)
template_of_stands e w id p (trees.Policy x) h =
    then_stands IsTold w Anything (parts_outcome e x) _
    (both_any IsTold w _ _ (both_any IsTold w (effect_outcome x.effect) (kept_outcome x.annotations) (effect_stands w x.effect h.1) (kept_stand w x.annotations h.0))
    (both_any IsTold w (scope_outcome e x) (conditions_outcome e x.conds) (scope_stands e w x h.1.0 h.2) (conditions_stand e w x.conds h.3))) (λ given. tt)

pub template_stands : (e : Extensions) (w : Origin) (id : List ℕ) (n : Node (Option Policy)) → NodeTidy w (PolicyTidy w) n → Stands IsTold w Anything (template_outcome e id n)
template_stands e w id n h = filled_then IsTold w n.loc (PolicyTidy w) Anything n.node (template_of e id n.loc) h (λ e. e) (λ x i. template_of_stands e w id n.loc x i)

from_stand : (e : Extensions) (w : Origin) (i : ℕ) (ps : List (Node (Option Policy))) → Each (NodeTidy w (PolicyTidy w)) ps → Stands IsTold w Anything (policies_from e i ps)
from_stand e w i [] h = tt
from_stand e w i (p ∷ ps) h =
    then_stands IsTold w Anything _ _ (both_any IsTold w (template_outcome e (policy_id i) p) (policies_from e (suc i) ps) (template_stands e w (policy_id i) p h.0) (from_stand e w (suc i) ps h.1)) (λ q. tt)

set_stands : (e : Extensions) (w : Origin) (ns : List (Node (Option Policy))) → Each (NodeTidy w (PolicyTidy w)) ns → Stands IsTold w Anything (set_outcome e ns)
set_stands e w ns h = then_stands IsTold w Anything (policies_from e 0 ns) _ (from_stand e w 0 ns h) (λ ts. tt)

pub policies_stand : (e : Extensions) (w : Origin) (n : Node (Option Policies)) → NodeTidy w (PoliciesTidy w) n → Stands IsTold w Anything (policies_outcome e n)
policies_stand e w n h = filled_then IsTold w n.loc (PoliciesTidy w) Anything n.node (λ ps. set_outcome e ps.0) h (λ e. e) (λ ps i. set_stands e w ps.0 i)

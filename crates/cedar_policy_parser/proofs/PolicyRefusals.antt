-- What the effect, the conditions and the scope of a policy are refused with, and how often.
use Rattle.std.proofs.Common.{◌≡◌, ◌≢◌, ℕ, suc, ◌+◌, ◌-◌, Bool, true, false, cond, List, [], ◌∷◌, ◌++◌, map, length, Option, Some, None, Ok, Err, refl, ◌∙◌, ap, subst, arith}
use Rattle.std.specs.List.{All, filter}
use Rattle.std.proofs.lemmas.List.Elements.{All-nil, All-cons, All-head, All-tail, All-append, All-weaker}
use Rattle.cedar_expressions.specs.declared.place.Slot.{Slot}
use Rattle.cedar_expressions.specs.Value.{Value}
use Rattle.cedar_syntax.specs.declared.cst.Annotation.{Annotation}
use Rattle.cedar_syntax.specs.declared.cst.Cond.{Cond}
use Rattle.cedar_syntax.specs.declared.cst.Expr.{Expr}
use Rattle.cedar_syntax.specs.declared.cst.Ident.{Ident}
use Rattle.cedar_syntax.specs.declared.cst.Ident.TheVariants as words
use Rattle.cedar_syntax.specs.declared.cst.Policies.{Policies}
use Rattle.cedar_syntax.specs.declared.cst.Policy.{Policy}
use Rattle.cedar_syntax.specs.declared.cst.Policy.TheVariants as trees
use Rattle.cedar_syntax.specs.declared.cst.PolicyImpl.{PolicyImpl}
use Rattle.cedar_syntax.specs.declared.cst.Ref.{Ref}
use Rattle.cedar_syntax.specs.trees.Located.{Located}
use Rattle.cedar_syntax.specs.declared.cst.VariableDef.{VariableDef}
use Rattle.cedar_expressions.specs.declared.atoms.Var.{Var}
use Rattle.cedar_expressions.specs.declared.atoms.Var.TheVariants as vars
use Rattle.cedar_syntax.specs.declared.loc.Loc.{Loc}
use Rattle.cedar_syntax.specs.declared.node.Node.{Node}
use Rattle.cedar_syntax.specs.trees.Forms.{located, expr_form}
use Rattle.cedar_grammar.specs.grammar.Grammar.{IsTreeOf}
use Rattle.cedar_grammar.specs.grammar.LoosePolicies.{ReadsPolicies, ReadsPolicy}
use Rattle.cedar_syntax.specs.trees.Trees.{Cell}
use Rattle.cedar_policy_conversion.specs.AnnotationKeys.{annotation_outcome, annotations_outcome, with_new_key}
use Rattle.cedar_policy_parser.specs.faults.Blocks.{faults_from}
use Rattle.cedar_policy_conversion.specs.Conditions.{is_when_of, condition_value, condition_slot_fault, condition_word, slots_outcome, without_slots, condition_of, condition_outcome}
use Rattle.cedar_conversion.specs.outcome.Conversion.{Converts, value_outcome}
use Rattle.cedar_policy_parser.specs.faults.Due.{HoldsCondition, IsWhenOrUnless, is_missing_variable, is_extra_element, count, OfParts, RefusesEffect, TellsMissing, TellsExtra, IsTellable}
use Rattle.cedar_conversion.specs.strict.Extensions.{Extensions}
use Rattle.cedar_conversion.specs.parts.Entities.{entity_outcome}
use Rattle.cedar_conversion.specs.parts.Literals.{string_outcome}
use Rattle.cedar_conversion.specs.parts.Names.{content_outcome, valid_ident, any_ident}
use Rattle.cedar_conversion.specs.outcome.Detail as detail
use Rattle.cedar_conversion.specs.outcome.Outcome.{Kind, NamedFault, Outcome, detailed_outcome, both, next, invalid_effect, invalid_condition, empty_clause, missing_scope_variable, extra_scope_element, expected_static_policy, duplicate_policy_id, duplicate_template_id, membership_invariant_violation, faults_outcome}
use Rattle.cedar_policy_conversion.specs.Policies.{TemplateParts, effect_of, effect_outcome, template_outcome, scope_slots, unless_slots, is_slot_fault, slot_faults, slot_place, slot_told, only_static, static_outcome, side_outcome, either_outcome, policies_outcome}
use Rattle.cedar_policy_conversion.specs.References.{referent_outcome, single_entity, entity_or_slot, one_or_multiple}
use Rattle.cedar_policy_conversion.specs.Scope.{principal_outcome, action_outcome, resource_outcome, place_behind, if_there, extra_element_fault, no_extra, scope_of, elements_outcome, scope_outcome}
use Rattle.cedar_expressions.specs.Slots.{slots_of}
use Rattle.cedar_policy_parser.proofs.ByHand.{any_annotation_stands, any_annotations_stand, any_condition_stands, any_effect_stands, any_entity_stands, any_identifier_stands, any_multiple_stands, any_policy_stands, any_reference_stands, any_scope_stands, any_set_stands, any_single_stands, any_string_stands, any_value_stands, any_word_stands}
use Rattle.cedar_policy_parser.proofs.standing.InBlocks.{made_told, joined_told}
use Rattle.cedar_policy_parser.proofs.standing.Standing.{Origin, by_hand, parsed, IsTold, IsPlain, KindWithin, Stands, Anything, no_policy_name, no_template_name, no_text_fault, some_told}
use Rattle.cedar_policy_parser.proofs.standing.StandingScopes.{principal_stands, action_stands, resource_stands}
use Rattle.cedar_policy_parser.proofs.standing.StandingTexts.{parsed_tidy, each_policy}
use Rattle.cedar_policy_parser.proofs.tidy.Tidy.{Holding, NodeTidy, Each, IdentHeld}
use Rattle.cedar_policy_parser.proofs.tidy.TidyPolicies.{IfThere, ElementTidy, PolicyTidy, WholeTidy}

-- ---- the effect

effect_of_alone : (p : Option Loc) (word : Ident) (faults : List NamedFault) → effect_of p word ≡ Err faults → faults ≡ (invalid_effect, p, detail.word word) ∷ []
effect_of_alone p words.Permit faults e = cc
effect_of_alone p words.Forbid faults e = cc
effect_of_alone p word faults e = cc

effect_in : (w p : Option Loc) (c : Option Ident) (faults : List NamedFault) → Holding (parsed w) (IdentHeld (parsed w)) c → next (content_outcome p c) (effect_of p) ≡ Err faults → faults ≡ (invalid_effect, p, detail.word_there c) ∷ []
effect_in w p None faults h e = absurd h
effect_in w p (Some word) faults h e = effect_of_alone p word faults e

effect_told : (w : Option Loc) (p : PolicyImpl) → PolicyTidy (parsed w) (trees.Policy p) → RefusesEffect p
effect_told w p h faults = effect_in w p.effect.loc p.effect.node faults h.1.1

-- ---- conditions

pub condition_is : (e : Extensions) (n : Node (Option Cond)) (c : Cond) → n.node ≡ Some c → condition_outcome e n ≡ condition_of e n.loc c
condition_is e n c h = ap (λ o. next (content_outcome n.loc o) (condition_of e n.loc)) h

other_is_none : (p : Option Loc) (word : Ident) → ¬ (IsWhenOrUnless word) → is_when_of p word ≡ detailed_outcome invalid_condition p (detail.word word)
other_is_none p words.When h = absurd (h tt)
other_is_none p words.Unless h = absurd (h tt)
other_is_none p word h = refl

pub other_word : (e : Extensions) (n : Node (Option Cond)) (word : Ident) (place : Option Loc) (expr : Option (Node (Option Expr))) → HoldsCondition n word place expr → ¬ (IsWhenOrUnless word)
    → condition_outcome e n ≡ detailed_outcome invalid_condition place (detail.word word)
other_word e n word place expr i h = condition_is e n _ i ∙ rw (other_is_none place word h) refl

pub one_is_given : (p : Option Loc) (word : Ident) → IsWhenOrUnless word → (b : Bool) × (is_when_of p word ≡ Ok b)
one_is_given p words.When h = (true, refl)
one_is_given p words.Unless h = (false, refl)
one_is_given p word h = absurd h

pub no_clause : (e : Extensions) (n : Node (Option Cond)) (word : Ident) (place : Option Loc) → HoldsCondition n word place None → IsWhenOrUnless word → condition_outcome e n ≡ detailed_outcome empty_clause n.loc (detail.word word)
no_clause e n word place i h = condition_is e n _ i ∙ rw ((one_is_given place word h).1) refl

unless_is : (fs : List NamedFault) → faults_from (faults_outcome fs) ≡ fs
unless_is [] = refl
unless_is (f ∷ fs) = refl

slots_alone : (p : Option Loc) (when : Bool) (x : Value) → faults_from (without_slots p when x) ≡ map (condition_slot_fault p (condition_word when)) (slots_of x)
slots_alone p when x = made_told (slots_outcome p (condition_word when) x) (λ _. condition_value when x) ∙ unless_is (map (condition_slot_fault p (condition_word when)) (slots_of x))

joined_clause : (p : Option Loc) (b : Bool) (o : Outcome Bool) (c : Outcome Value) (x : Value) → o ≡ Ok b → c ≡ Ok x → next o (λ when. next c (without_slots p when)) ≡ without_slots p b x
joined_clause p b o c x h k = rw (h, k) refl

pub clause_slots : (e : Extensions) (n : Node (Option Cond)) (word : Ident) (place : Option Loc) (when : Bool) (expr : Node (Option Expr)) (x : Value) → HoldsCondition n word place (Some expr) → is_when_of place word ≡ Ok when → Converts e (located expr_form expr) x
    → faults_from (condition_outcome e n) ≡ map (condition_slot_fault n.loc (condition_word when)) (slots_of x)
clause_slots e n word place when expr x i h k =
    ap faults_from (condition_is e n _ i ∙ joined_clause n.loc when (is_when_of place word) _ x h k) ∙ slots_alone n.loc when x

-- ---- counts

one_counted : (f : NamedFault) (fs : List NamedFault) (b : Bool) → length (cond b (f ∷ fs) fs) ≡ cond b 1 0 + length fs
one_counted f fs true = omega arith
one_counted f fs false = omega arith

count_cons : (is_one : Kind → Bool) (f : NamedFault) (fs : List NamedFault) → count is_one (f ∷ fs) ≡ cond (is_one f.0) 1 0 + count is_one fs
count_cons is_one f fs = one_counted f (filter (λ f. is_one f.0) fs) (is_one f.0)

count_append : (is_one : Kind → Bool) (fs gs : List NamedFault) → count is_one (fs ++ gs) ≡ count is_one fs + count is_one gs
count_append is_one [] gs = omega arith
count_append is_one (f ∷ fs) gs =
    let a = count_cons is_one f (fs ++ gs) in
    let b = count_append is_one fs gs in
    let c = count_cons is_one f fs in
    omega arith

four_counted : (is_one : Kind → Bool) (fs gs hs ks : List NamedFault) → count is_one (fs ++ gs ++ hs ++ ks) ≡ count is_one fs + count is_one gs + count is_one hs + count is_one ks
four_counted is_one fs gs hs ks =
    let a = count_append is_one (fs ++ gs ++ hs) ks in
    let b = count_append is_one (fs ++ gs) hs in
    let c = count_append is_one fs gs in
    omega arith

-- a kind that no plain fault has
abbrev IsNotPlain : (Kind → Bool) → Type 0
IsNotPlain is_one = (w : Option Loc) (kind : Kind) → IsPlain (parsed w) kind → is_one kind ≡ false

missing_not_plain : IsNotPlain is_missing_variable
missing_not_plain w missing_scope_variable h = absurd h
missing_not_plain w kind h = refl

extra_not_plain : IsNotPlain is_extra_element
extra_not_plain w extra_scope_element h = absurd h
extra_not_plain w kind h = refl

none_plain : (is_one : Kind → Bool) → IsNotPlain is_one → (w : Option Loc) (fs : List NamedFault) → All (KindWithin IsPlain (parsed w)) fs → count is_one fs ≡ 0
none_plain is_one h w [] all = refl
none_plain is_one h w (f ∷ fs) all =
    ap (λ b. length (cond b (f ∷ filter (λ g. is_one g.0) fs) (filter (λ g. is_one g.0) fs))) (h w f.0 (All-head (KindWithin IsPlain (parsed w)) f fs all).0) ∙ none_plain is_one h w fs (All-tail (KindWithin IsPlain (parsed w)) f fs all)

none_in : {X : Type 0} (is_one : Kind → Bool) → IsNotPlain is_one → (w : Option Loc) (x : Outcome X) → Stands IsPlain (parsed w) Anything x → count is_one (faults_from x) ≡ 0
none_in is_one h w (Ok x) s = refl
none_in is_one h w (Err fs) s = none_plain is_one h w fs s.1

-- ---- the scope

abbrev Element : Type 0
Element = Node (Option VariableDef)

abbrev Tidied : Option Loc → Element → Type 0
Tidied w n = NodeTidy (parsed w) (ElementTidy (parsed w)) n

-- one where there is no element
abbrev absent : Option Element → ℕ
absent None = 1
absent (Some n) = 0

missing_there : {X : Type 0} (w : Option Loc) (v : Var) (g : Element → Outcome X) (before : Option Loc) (c : Option Element) → IfThere (Tidied w) c → ((n : Element) → Tidied w n → Stands IsPlain (parsed w) Anything (g n)) → count is_missing_variable (faults_from (if_there v g before c)) ≡ absent c
missing_there w v g before None h s = refl
missing_there w v g before (Some n) h s = none_in is_missing_variable missing_not_plain w (g n) (s n h)

extra_there : {X : Type 0} (w : Option Loc) (v : Var) (g : Element → Outcome X) (before : Option Loc) (c : Option Element) → IfThere (Tidied w) c → ((n : Element) → Tidied w n → Stands IsPlain (parsed w) Anything (g n)) → count is_extra_element (faults_from (if_there v g before c)) ≡ 0
extra_there w v g before None h s = refl
extra_there w v g before (Some n) h s = none_in is_extra_element extra_not_plain w (g n) (s n h)

abbrev extras : List Element → List NamedFault
extras ns = map (λ n. extra_element_fault n.loc n.node) ns

missing_one : (w p : Option Loc) (c : Option VariableDef) (fs : List NamedFault) → Holding (parsed w) (ElementTidy (parsed w)) c → count is_missing_variable (extra_element_fault p c ∷ fs) ≡ count is_missing_variable fs
missing_one w p None fs h = absurd h
missing_one w p (Some d) fs h = refl

missing_extras : (w : Option Loc) (ns : List Element) → Each (Tidied w) ns → count is_missing_variable (extras ns) ≡ 0
missing_extras w [] h = refl
missing_extras w (n ∷ ns) h = missing_one w n.loc n.node (extras ns) h.0.1 ∙ missing_extras w ns h.1

extra_one : (w p : Option Loc) (c : Option VariableDef) (fs : List NamedFault) → Holding (parsed w) (ElementTidy (parsed w)) c → count is_extra_element (extra_element_fault p c ∷ fs) ≡ suc (count is_extra_element fs)
extra_one w p None fs h = absurd h
extra_one w p (Some d) fs h = refl

extra_extras : (w : Option Loc) (ns : List Element) → Each (Tidied w) ns → count is_extra_element (extras ns) ≡ length ns
extra_extras w [] h = refl
extra_extras w (n ∷ ns) h = extra_one w n.loc n.node (extras ns) h.0.1 ∙ ap suc (extra_extras w ns h.1)

scope_told : (e : Extensions) (before : Option Loc) (a b c : Option Element) (ns : List Element) → faults_from (scope_of e before a b c ns)
    ≡ faults_from (if_there vars.Principal (principal_outcome e) before a) ++ faults_from (if_there vars.Action (action_outcome e) (place_behind before a) b) ++ faults_from (if_there vars.Resource (resource_outcome e) (place_behind (place_behind before a) b) c) ++ extras ns
scope_told e before a b c ns =
    made_told (both (both (if_there vars.Principal (principal_outcome e) before a) (if_there vars.Action (action_outcome e) (place_behind before a) b)) (both (if_there vars.Resource (resource_outcome e) (place_behind (place_behind before a) b) c) (no_extra ns))) (λ p. (p.0.0, p.0.1, p.1.0))
    ∙ joined_told (if_there vars.Principal (principal_outcome e) before a) (if_there vars.Action (action_outcome e) (place_behind before a) b) (if_there vars.Resource (resource_outcome e) (place_behind (place_behind before a) b) c) (no_extra ns)
    ∙ ap (λ fs. faults_from (if_there vars.Principal (principal_outcome e) before a) ++ faults_from (if_there vars.Action (action_outcome e) (place_behind before a) b) ++ faults_from (if_there vars.Resource (resource_outcome e) (place_behind (place_behind before a) b) c) ++ fs) (unless_is (extras ns))

scope_counted : (is_one : Kind → Bool) (e : Extensions) (before : Option Loc) (a b c : Option Element) (ns : List Element) → count is_one (faults_from (scope_of e before a b c ns))
    ≡ count is_one (faults_from (if_there vars.Principal (principal_outcome e) before a)) + count is_one (faults_from (if_there vars.Action (action_outcome e) (place_behind before a) b)) + count is_one (faults_from (if_there vars.Resource (resource_outcome e) (place_behind (place_behind before a) b) c)) + count is_one (extras ns)
scope_counted is_one e before a b c ns =
    ap (count is_one) (scope_told e before a b c ns)
    ∙ four_counted is_one (faults_from (if_there vars.Principal (principal_outcome e) before a)) (faults_from (if_there vars.Action (action_outcome e) (place_behind before a) b)) (faults_from (if_there vars.Resource (resource_outcome e) (place_behind (place_behind before a) b) c)) (extras ns)

sums : (n m k l a b c d s : ℕ) → s ≡ n + m + k + l → n ≡ a → m ≡ b → k ≡ c → l ≡ d → s ≡ a + b + c + d
sums n m k l a b c d s h i j o p = omega arith

missing_of : (e : Extensions) (w before : Option Loc) (a b c : Option Element) (ns : List Element) → IfThere (Tidied w) a → IfThere (Tidied w) b → IfThere (Tidied w) c → Each (Tidied w) ns
    → count is_missing_variable (faults_from (scope_of e before a b c ns)) ≡ absent a + absent b + absent c + 0
missing_of e w before a b c ns h i j k =
    sums _ _ _ _ (absent a) (absent b) (absent c) 0 _ (scope_counted is_missing_variable e before a b c ns) (missing_there w vars.Principal (principal_outcome e) before a h (principal_stands e (parsed w))) (missing_there w vars.Action (action_outcome e) (place_behind before a) b i (action_stands e (parsed w)))
    (missing_there w vars.Resource (resource_outcome e) (place_behind (place_behind before a) b) c j (resource_stands e (parsed w))) (missing_extras w ns k)

extra_of : (e : Extensions) (w before : Option Loc) (a b c : Option Element) (ns : List Element) → IfThere (Tidied w) a → IfThere (Tidied w) b → IfThere (Tidied w) c → Each (Tidied w) ns
    → count is_extra_element (faults_from (scope_of e before a b c ns)) ≡ 0 + 0 + 0 + length ns
extra_of e w before a b c ns h i j k =
    sums _ _ _ _ 0 0 0 (length ns) _ (scope_counted is_extra_element e before a b c ns) (extra_there w vars.Principal (principal_outcome e) before a h (principal_stands e (parsed w))) (extra_there w vars.Action (action_outcome e) (place_behind before a) b i (action_stands e (parsed w)))
    (extra_there w vars.Resource (resource_outcome e) (place_behind (place_behind before a) b) c j (resource_stands e (parsed w))) (extra_extras w ns k)

no_more : (s n : ℕ) → s ≡ 0 + 0 + 0 + 0 → s ≡ 3 - suc (suc (suc n))
no_more s n h = omega arith

so_many : (s n : ℕ) → s ≡ 0 + 0 + 0 + n → s ≡ suc (suc (suc n)) - 3
so_many s n h = omega arith

missing_elements : (e : Extensions) (w before : Option Loc) (ns : List Element) → Each (Tidied w) ns → count is_missing_variable (faults_from (elements_outcome e before ns)) ≡ 3 - length ns
missing_elements e w before [] h = missing_of e w before None None None [] tt tt tt tt
missing_elements e w before (a ∷ []) h = missing_of e w before (Some a) None None [] h.0 tt tt tt
missing_elements e w before (a ∷ b ∷ []) h = missing_of e w before (Some a) (Some b) None [] h.0 h.1.0 tt tt
missing_elements e w before (a ∷ b ∷ c ∷ ns) h = no_more _ (length ns) (missing_of e w before (Some a) (Some b) (Some c) ns h.0 h.1.0 h.1.1.0 h.1.1.1)

extra_elements : (e : Extensions) (w before : Option Loc) (ns : List Element) → Each (Tidied w) ns → count is_extra_element (faults_from (elements_outcome e before ns)) ≡ length ns - 3
extra_elements e w before [] h = extra_of e w before None None None [] tt tt tt tt
extra_elements e w before (a ∷ []) h = extra_of e w before (Some a) None None [] h.0 tt tt tt
extra_elements e w before (a ∷ b ∷ []) h = extra_of e w before (Some a) (Some b) None [] h.0 h.1.0 tt tt
extra_elements e w before (a ∷ b ∷ c ∷ ns) h = so_many _ (length ns) (extra_of e w before (Some a) (Some b) (Some c) ns h.0 h.1.0 h.1.1.0 h.1.1.1)

missing_told : (e : Extensions) (w : Option Loc) (p : PolicyImpl) → PolicyTidy (parsed w) (trees.Policy p) → TellsMissing e p
missing_told e w p h = missing_elements e w p.effect.loc p.variables h.2

extra_told : (e : Extensions) (w : Option Loc) (p : PolicyImpl) → PolicyTidy (parsed w) (trees.Policy p) → TellsExtra e p
extra_told e w p h = extra_elements e w p.effect.loc p.variables h.2

-- ---- a parsed policy, and each of a parsed set

of_policy : (P : PolicyImpl → Type 0) → ((w : Option Loc) (p : PolicyImpl) → PolicyTidy (parsed w) (trees.Policy p) → P p) → (text : List ℕ) (tree : Cell Policy) → IsTreeOf ReadsPolicy text tree → OfParts P tree
of_policy P k text tree g p e = let d = parsed_tidy text tree (trees.Policy p) g e in k d.0 p d.1

of_members : (P : PolicyImpl → Type 0) → ((w : Option Loc) (p : PolicyImpl) → PolicyTidy (parsed w) (trees.Policy p) → P p) → (text : List ℕ) (tree : Cell Policies) (x : Policies) → IsTreeOf ReadsPolicies text tree → tree.node ≡ Some x
    → All (OfParts P) x.0
of_members P k text tree x g h = each_policy text tree x (OfParts P) g h (λ n i p e. k n.loc p (subst (Holding (parsed n.loc) (WholeTidy (parsed n.loc))) e i.1).0)

pub effect_due : (text : List ℕ) (tree : Cell Policy) → IsTreeOf ReadsPolicy text tree → OfParts RefusesEffect tree
effect_due = of_policy RefusesEffect effect_told

pub missing_due : (e : Extensions) (text : List ℕ) (tree : Cell Policy) → IsTreeOf ReadsPolicy text tree → OfParts (TellsMissing e) tree
missing_due e = of_policy (TellsMissing e) (missing_told e)

pub extra_due : (e : Extensions) (text : List ℕ) (tree : Cell Policy) → IsTreeOf ReadsPolicy text tree → OfParts (TellsExtra e) tree
extra_due e = of_policy (TellsExtra e) (extra_told e)

pub member_effect_due : (text : List ℕ) (tree : Cell Policies) (x : Policies) → IsTreeOf ReadsPolicies text tree → tree.node ≡ Some x → All (OfParts RefusesEffect) x.0
member_effect_due = of_members RefusesEffect effect_told

pub member_missing_due : (e : Extensions) (text : List ℕ) (tree : Cell Policies) (x : Policies) → IsTreeOf ReadsPolicies text tree → tree.node ≡ Some x → All (OfParts (TellsMissing e)) x.0
member_missing_due e = of_members (TellsMissing e) (missing_told e)

pub member_extra_due : (e : Extensions) (text : List ℕ) (tree : Cell Policies) (x : Policies) → IsTreeOf ReadsPolicies text tree → tree.node ≡ Some x → All (OfParts (TellsExtra e)) x.0
member_extra_due e = of_members (TellsExtra e) (extra_told e)

-- ---- what is never told

no_names : {X : Type 0} (o : Origin) (x : Outcome X) → Stands IsTold o Anything x → All IsTellable (faults_from x)
no_names o (Ok x) h = All-nil IsTellable
no_names o (Err fs) h = All-weaker (KindWithin IsTold o) IsTellable (λ f i. (no_policy_name o f.0 i.0, no_template_name o f.0 i.0, no_text_fault o f.0 i.0)) fs h.1

pub policy_names : (e : Extensions) (id : List ℕ) (tree : Cell Policy) → All IsTellable (faults_from (template_outcome e id tree))
policy_names e id tree = no_names by_hand (template_outcome e id tree) (any_policy_stands e id tree)

-- no more is it of a part of a policy, nor of what is converted alone

pub value_names : (e : Extensions) (tree : Located) → All IsTellable (faults_from (value_outcome e tree))
value_names e tree = no_names by_hand (value_outcome e tree) (any_value_stands e tree)

pub string_names : (tree : Located) → All IsTellable (faults_from (string_outcome tree))
string_names tree = no_names by_hand (string_outcome tree) (any_string_stands tree)

pub entity_names : (n : Node (Option Ref)) → All IsTellable (faults_from (entity_outcome n))
entity_names n = no_names by_hand (entity_outcome n) (any_entity_stands n)

pub identifier_names : (n : Node (Option Ident)) → All IsTellable (faults_from (valid_ident n))
identifier_names n = no_names by_hand (valid_ident n) (any_identifier_stands n)

pub word_names : (n : Node (Option Ident)) → All IsTellable (faults_from (any_ident n))
word_names n = no_names by_hand (any_ident n) (any_word_stands n)

pub single_names : (x : Var) (n : Node (Option Expr)) → All IsTellable (faults_from (referent_outcome single_entity x n))
single_names x n = no_names by_hand (referent_outcome single_entity x n) (any_single_stands x n)

pub reference_names : (x : Var) (n : Node (Option Expr)) → All IsTellable (faults_from (referent_outcome entity_or_slot x n))
reference_names x n = no_names by_hand (referent_outcome entity_or_slot x n) (any_reference_stands x n)

pub multiple_names : (x : Var) (n : Node (Option Expr)) → All IsTellable (faults_from (referent_outcome one_or_multiple x n))
multiple_names x n = no_names by_hand (referent_outcome one_or_multiple x n) (any_multiple_stands x n)

pub effect_names : (n : Node (Option Ident)) → All IsTellable (faults_from (effect_outcome n))
effect_names n = no_names by_hand (effect_outcome n) (any_effect_stands n)

pub annotation_names : (keys : List (List ℕ)) (n : Node (Option Annotation)) → All IsTellable (faults_from (next (annotation_outcome n) (with_new_key keys)))
annotation_names keys n = no_names by_hand (next (annotation_outcome n) (with_new_key keys)) (any_annotation_stands keys n)

pub annotations_names : (ns : List (Node (Option Annotation))) → All IsTellable (faults_from (annotations_outcome ns))
annotations_names ns = no_names by_hand (annotations_outcome ns) (any_annotations_stand ns)

pub scope_names : (e : Extensions) (p : PolicyImpl) → All IsTellable (faults_from (scope_outcome e p))
scope_names e p = no_names by_hand (scope_outcome e p) (any_scope_stands e p)

pub condition_names : (e : Extensions) (n : Node (Option Cond)) → All IsTellable (faults_from (condition_outcome e n))
condition_names e n = no_names by_hand (condition_outcome e n) (any_condition_stands e n)

static_no_policy : expected_static_policy ≢ duplicate_policy_id
static_no_policy e = cc

static_no_template : expected_static_policy ≢ duplicate_template_id
static_no_template e = cc

static_no_text : expected_static_policy ≢ membership_invariant_violation
static_no_text e = cc

wanted_names : (faults : List NamedFault) → All IsTellable (map (λ f. (expected_static_policy, f.1, slot_told f.2)) faults)
wanted_names [] = All-nil IsTellable
wanted_names (f ∷ fs) = All-cons IsTellable (expected_static_policy, f.1, slot_told f.2) (map (λ f. (expected_static_policy, f.1, slot_told f.2)) fs) (static_no_policy, static_no_template, static_no_text) (wanted_names fs)

unless_names : (p : Option Loc) (slots : List Slot) (t : TemplateParts) → All IsTellable (faults_from (unless_slots p slots t))
unless_names p [] t = All-nil IsTellable
unless_names p (s ∷ slots) t = All-cons IsTellable (expected_static_policy, slot_place p s.place, detail.slot s) [] (static_no_policy, static_no_template, static_no_text) (All-nil IsTellable)

only_names : (p : Option Loc) (o : Outcome TemplateParts) → All IsTellable (faults_from o) → All IsTellable (faults_from (only_static p o))
only_names p (Ok t) h = unless_names p (scope_slots t) t
only_names p (Err fs) h = All-append IsTellable fs (slot_faults fs) h (wanted_names (filter (λ f. is_slot_fault f.0) fs))

pub static_names : (e : Extensions) (id : List ℕ) (tree : Cell Policy) → All IsTellable (faults_from (static_outcome e id tree))
static_names e id tree = only_names tree.loc (template_outcome e id tree) (policy_names e id tree)

side_names : (o : Outcome TemplateParts) → All IsTellable (faults_from o) → All IsTellable (faults_from (side_outcome o))
side_names (Ok t) h = h
side_names (Err fs) h = h

pub either_names : (e : Extensions) (id : List ℕ) (tree : Cell Policy) → All IsTellable (faults_from (either_outcome e id tree))
either_names e id tree = side_names (template_outcome e id tree) (policy_names e id tree)

pub set_names : (e : Extensions) (tree : Cell Policies) → All IsTellable (faults_from (policies_outcome e tree))
set_names e tree = no_names by_hand (policies_outcome e tree) (any_set_stands e tree)

-- ---- what is refused is told

pub effect_refused : (n : Node (Option Ident)) (faults : List NamedFault) → effect_outcome n ≡ Err faults → faults ≢ []
effect_refused n faults h = some_told by_hand (effect_outcome n) faults (any_effect_stands n) h

pub annotation_refused : (keys : List (List ℕ)) (n : Node (Option Annotation)) (faults : List NamedFault) → next (annotation_outcome n) (with_new_key keys) ≡ Err faults → faults ≢ []
annotation_refused keys n faults h = some_told by_hand (next (annotation_outcome n) (with_new_key keys)) faults (any_annotation_stands keys n) h

pub scope_refused : (e : Extensions) (p : PolicyImpl) (faults : List NamedFault) → scope_outcome e p ≡ Err faults → faults ≢ []
scope_refused e p faults h = some_told by_hand (scope_outcome e p) faults (any_scope_stands e p) h

pub condition_refused : (e : Extensions) (n : Node (Option Cond)) (faults : List NamedFault) → condition_outcome e n ≡ Err faults → faults ≢ []
condition_refused e n faults h = some_told by_hand (condition_outcome e n) faults (any_condition_stands e n) h

pub policy_refused : (e : Extensions) (id : List ℕ) (tree : Cell Policy) (faults : List NamedFault) → template_outcome e id tree ≡ Err faults → faults ≢ []
policy_refused e id tree faults h = some_told by_hand (template_outcome e id tree) faults (any_policy_stands e id tree) h

pub set_refused : (e : Extensions) (tree : Cell Policies) (faults : List NamedFault) → policies_outcome e tree ≡ Err faults → faults ≢ []
set_refused e tree faults h = some_told by_hand (policies_outcome e tree) faults (any_set_stands e tree) h

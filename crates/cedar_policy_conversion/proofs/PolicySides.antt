-- The slots of a template, and on which side it stands: a static policy has none.
use Rattle.std.proofs.Common.{◌≡◌, ◌||◌, Bool, true, false, cond, List, [], ◌∷◌, ◌++◌, append-nil, Option, Some, None, Ok, Err, is_some, slice_get, refl, sym, ap, ◌∙◌}
use Rattle.either.specs.declared.Either.TheVariants.{Left, Right}
use Rattle.cedar_expressions.specs.declared.atoms.SlotId.{SlotId}
use Rattle.cedar_expressions.specs.declared.atoms.SlotId.TheVariants as ids
use Rattle.cedar_expressions.specs.declared.place.Slot.{Slot}
use Rattle.cedar_policy_store.specs.declared.constraints.EntityReference.TheVariants as reference
use Rattle.cedar_policy_store.specs.declared.constraints.PrincipalOrResourceConstraint.{PrincipalOrResourceConstraint}
use Rattle.cedar_policy_store.specs.declared.constraints.PrincipalOrResourceConstraint.TheVariants as constraint
use Rattle.cedar_policy_store.specs.declared.template.Template.{Template}
use Rattle.cedar_policy_store.specs.PlaceFree.{asks_for_slot, constraint_meaning, has_slot_in_scope}
use Rattle.cedar_policy_store.specs.TemplateSlots.{at_most_one, constraint_slot, template_slots}
use Rattle.cedar_syntax.specs.declared.loc.Loc.{Loc}
use Rattle.cedar_conversion.specs.outcome.Detail.{slot}
use Rattle.cedar_conversion.specs.outcome.Outcome.{Outcome, NamedFault, detailed_outcome, expected_static_policy}
use Rattle.cedar_policy_conversion.specs.Policies.{TemplateParts, meaning_of, only_static, scope_slots, side_outcome, policy_side, slot_faults, slot_place, template_parts, unless_slots}
use Rattle.cedar_policy_conversion.specs.machines.PolicyViews.{IsConditionFree}

-- ---- a template's slots

-- where the condition has none, they are those of the scope
pub scope_alone : (t : Template) → IsConditionFree t → template_slots t ≡ scope_slots (template_parts t)
scope_alone t none =
    let first = at_most_one (constraint_slot ids.Principal t.principal.constraint) in
    let second = at_most_one (constraint_slot ids.Resource t.resource.constraint) in
    ap (λ slots. first ++ (second ++ slots)) none ∙ ap (λ slots. first ++ slots) (append-nil second)

-- ---- on which side a template stands

left_at : (slots : List Slot) (t : TemplateParts) → slots ≡ [] → policy_side slots t ≡ Left t
left_at slots t h = ap (λ ss. policy_side ss t) h

right_at : (slots : List Slot) (t : TemplateParts) (s : Slot) → Some s ≡ slice_get slots 0 → policy_side slots t ≡ Right t
right_at [] t s h = cc
right_at (r ∷ slots) t s h = refl

side_by : (a b : Option Slot) (t : TemplateParts) → policy_side (at_most_one a ++ at_most_one b) t ≡ cond (is_some a || is_some b) (Right t) (Left t)
side_by None None t = refl
side_by None (Some s) t = refl
side_by (Some r) b t = refl

asks : (id : SlotId) (c : PrincipalOrResourceConstraint) → is_some (constraint_slot id c) ≡ asks_for_slot (constraint_meaning c)
asks id constraint.Any = refl
asks id (constraint.Eq (reference.EUID e)) = refl
asks id (constraint.Eq (reference.Slot m)) = refl
asks id (constraint.In (reference.EUID e)) = refl
asks id (constraint.In (reference.Slot m)) = refl
asks id (constraint.Is e) = refl
asks id (constraint.IsIn e (reference.EUID u)) = refl
asks id (constraint.IsIn e (reference.Slot m)) = refl

-- by what it means
pub side_of : (t : TemplateParts) → policy_side (scope_slots t) t ≡ cond (has_slot_in_scope (meaning_of t)) (Right t) (Left t)
side_of t =
    side_by (constraint_slot ids.Principal t.principal.constraint) (constraint_slot ids.Resource t.resource.constraint) t
    ∙ ap (λ b. cond (b || is_some (constraint_slot ids.Resource t.resource.constraint)) (Right t) (Left t)) (asks ids.Principal t.principal.constraint)
    ∙ ap (λ b. cond (asks_for_slot (constraint_meaning t.principal.constraint) || b) (Right t) (Left t)) (asks ids.Resource t.resource.constraint)

pub is_left : (b : Bool) (t u : TemplateParts) → cond b (Right t) (Left t) ≡ Left u → (b ≡ false) × (t ≡ u)
is_left true t u h = cc
is_left false t u h = (refl, cc)

pub is_right : (b : Bool) (t u : TemplateParts) → cond b (Right t) (Left t) ≡ Right u → (b ≡ true) × (t ≡ u)
is_right true t u h = (refl, cc)
is_right false t u h = cc

none_there : {X : Type 0} (xs : List X) → None ≡ slice_get xs 0 → xs ≡ []
none_there [] h = refl
none_there (x ∷ xs) h = cc

pub no_slots : (t : Template) → IsConditionFree t → None ≡ slice_get (scope_slots (template_parts t)) 0 → template_slots t ≡ []
no_slots t free none = scope_alone t free ∙ none_there (scope_slots (template_parts t)) none

-- a template whose outcome is given, on its side
pub on_right : (o : Outcome TemplateParts) (t : Template) (s : Slot) → o ≡ Ok (template_parts t) → Some s ≡ slice_get (scope_slots (template_parts t)) 0 → side_outcome o ≡ Ok (Right (template_parts t))
on_right o t s h there = ap side_outcome h ∙ ap Ok (right_at (scope_slots (template_parts t)) (template_parts t) s there)

pub on_left : (o : Outcome TemplateParts) (t p : Template) → o ≡ Ok (template_parts t) → p ≡ t → None ≡ slice_get (scope_slots (template_parts t)) 0 → side_outcome o ≡ Ok (Left (template_parts p))
on_left o t p h same none =
    ap side_outcome h
    ∙ ap Ok (left_at (scope_slots (template_parts t)) (template_parts t) (none_there (scope_slots (template_parts t)) none) ∙ ap (λ u. Left (template_parts u)) (sym same))

-- ---- a static policy is wanted

pub unless_some : (place : Option Loc) (slots : List Slot) (t : TemplateParts) (s : Slot) → Some s ≡ slice_get slots 0 → unless_slots place slots t ≡ detailed_outcome expected_static_policy (slot_place place s.place) (slot s)
unless_some place [] t s h = cc
unless_some place (r ∷ slots) t s h = let same : r ≡ s = cc in ap (λ u. unless_slots place (u ∷ slots) t) same

pub unless_none : (place : Option Loc) (t p : Template) → p ≡ t → None ≡ slice_get (scope_slots (template_parts t)) 0 → unless_slots place (scope_slots (template_parts t)) (template_parts t) ≡ Ok (template_parts p)
unless_none place t p same none =
    ap (λ slots. unless_slots place slots (template_parts t)) (none_there (scope_slots (template_parts t)) none) ∙ ap (λ u. Ok (template_parts u)) (sym same)

-- faults of a template, and those behind them
pub static_faulty : (place : Option Loc) (o : Outcome TemplateParts) (faults all : List NamedFault) → o ≡ Err faults → all ≡ faults ++ slot_faults faults → only_static place o ≡ Err all
static_faulty place o faults all h more = ap (only_static place) h ∙ ap Err (sym more)

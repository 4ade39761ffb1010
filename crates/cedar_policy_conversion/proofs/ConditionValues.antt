-- What a condition means where no slot stands in it: it has no place.
use Rattle.std.proofs.Common.{◌≡◌, ℕ, Bool, true, false, List, [], map, Option, Result, Ok, subst, ap, sym, ◌∙◌, ◌∷◌, refl}
use Rattle.cedar_expressions.specs.declared.expr.Expr.{Expr}
use Rattle.cedar_expressions.specs.Meaning.{expr_meaning, unplaced}
use Rattle.cedar_expressions.specs.declared.place.Slot.{Slot}
use Rattle.cedar_expressions.specs.Slots.{slots_in, slots_of}
use Rattle.cedar_expressions.specs.Value as v
use Rattle.cedar_expressions.specs.Value.{Value}
use Rattle.cedar_expressions.specs.WithoutPlaces.{without_places}
use Rattle.cedar_syntax.specs.declared.err.faults.Failure.{Failure}
use Rattle.cedar_syntax.specs.declared.loc.Loc.{Loc}
use Rattle.cedar_policy_conversion.specs.Conditions.{condition_slot_fault, condition_value, condition_word, slots_outcome, without_slots}
use Rattle.cedar_conversion.specs.outcome.Outcome.{next, faults_outcome}
use Rattle.cedar_conversion.specs.outcome.Seen.{Gives}
use Rattle.cedar_conversion.specs.machines.Views.{empty_view}
use Rattle.cedar_policy_conversion.proofs.SlotFree.{no_place}

-- where no slot is told, there is none
pub no_slots : (place : Option Loc) (word : List ℕ) (slots : List Slot) (u : Unit {0}) → faults_outcome (map (condition_slot_fault place word) slots) ≡ Ok u → slots ≡ []
no_slots place word [] u h = refl
no_slots place word (s ∷ slots) u h = cc

-- `unless` adds no slot
pub value_free : (when : Bool) (x : Value) → slots_of x ≡ [] → slots_of (condition_value when x) ≡ []
unfolding slots_of
value_free true x h = h
value_free false x h = h

-- an expression in which no slot stands is what it is, places aside
no_place_in : (e : Expr) (x : Value) → expr_meaning e ≡ x → slots_of x ≡ [] → unplaced e ≡ x
unfolding unplaced
no_place_in e x h none = ap without_places h ∙ no_place x none

pub value_there : (place : Option Loc) (when : Bool) (expr made : Expr) (u : Unit {0}) → slots_outcome place (condition_word when) (expr_meaning expr) ≡ Ok u → expr_meaning made ≡ condition_value when (expr_meaning expr)
    → without_slots place when (expr_meaning expr) ≡ Ok (unplaced made)
value_there place when expr made u h is =
    let none = value_free when (expr_meaning expr) (no_slots place (condition_word when) (slots_of (expr_meaning expr)) u h) in
    ap (λ o. next o (λ _. Ok (condition_value when (expr_meaning expr)))) h ∙ ap Ok (sym (no_place_in made (condition_value when (expr_meaning expr)) is none))

-- the slots that a call answers are told, with the condition's word
pub slots_there : (place : Option Loc) (word told : List ℕ) (expr : Expr) (slots : List Slot) (r : Result (Unit {0}) Failure) → told ≡ word → slots ≡ slots_in expr → Gives empty_view r (faults_outcome (map (condition_slot_fault place told) slots))
    → Gives empty_view r (slots_outcome place word (expr_meaning expr))
unfolding slots_in
slots_there place word told expr slots r w e h = subst (λ u. Gives empty_view r (faults_outcome (map (condition_slot_fault place u) (slots_in expr)))) w (subst (λ s. Gives empty_view r (faults_outcome (map (condition_slot_fault place told) s))) e h)

-- both places aside
pub joined_aside : (a b r : Expr) → expr_meaning r ≡ v.and (expr_meaning a) (expr_meaning b) → unplaced r ≡ v.and (unplaced a) (unplaced b)
unfolding unplaced without_places
joined_aside a b r h = ap without_places h

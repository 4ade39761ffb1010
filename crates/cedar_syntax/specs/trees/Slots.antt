-- What a slot of a syntax tree is: which slot of a template, for which variable of the scope; or
-- none of the two, which is refused.
use Rattle.std.specs.Prelude.{◌≡◌, ℕ, Bool, true, false, List, [], ◌∷◌, None, Result, Ok, MatchResult}
use Rattle.cedar_expressions.specs.declared.atoms.SlotId.{SlotId}
use Rattle.cedar_expressions.specs.declared.atoms.SlotId.TheVariants as ids
use Rattle.cedar_expressions.specs.declared.atoms.Var.{Var}
use Rattle.cedar_expressions.specs.declared.atoms.Var.TheVariants as vars
use Rattle.cedar_syntax.specs.declared.cst.Slot.{Slot}
use Rattle.cedar_syntax.specs.declared.cst.Slot.TheVariants as slots
use Rattle.cedar_syntax.specs.declared.err.faults.Failure.{Failure}
use Rattle.cedar_syntax.specs.declared.err.faults.Failure.TheVariants.{Memory, Errors}
use Rattle.cedar_syntax.specs.declared.err.faults.ParseError.TheVariants.{ToAST}
use Rattle.cedar_syntax.specs.declared.err.to_ast.ToASTErrorKind.TheVariants.{InvalidSlot}
use Rattle.cedar_syntax.specs.faults.ParseErrors.{faults_of}

-- the form that a slot is written as
abbrev pub written_slot : SlotId → Slot
written_slot ids.Principal = slots.Principal
written_slot ids.Resource = slots.Resource

-- the variable that a slot can stand for
abbrev pub matches : Slot → Var → Bool
matches slots.Principal vars.Principal = true
matches slots.Resource vars.Resource = true
matches _ _ = false

-- `InvalidSlot` alone, without a place, or want of memory
abbrev pub TellsSlot : List ℕ → Failure → Type 0
TellsSlot text (Memory error) = Unit {0}
TellsSlot text (Errors errors) =
    faults_of errors ≡ ToAST (record { kind = InvalidSlot text; loc = None }) ∷ []

-- the slot, or the refusal of a form that is none
abbrev pub GivesSlot : Slot → Result SlotId Failure → Type 0
GivesSlot slots.Principal answer = answer ≡ Ok ids.Principal
GivesSlot slots.Resource answer = answer ≡ Ok ids.Resource
GivesSlot (slots.Other text) answer = MatchResult answer (λ id. ⊥) (TellsSlot text)

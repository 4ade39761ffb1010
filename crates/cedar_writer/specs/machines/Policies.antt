-- What becomes of a line where a policy's parts are written.
use Rattle.std.specs.Prelude.{◌≡◌, ℕ, List, [], ◌∷◌, ◌⊎◌, Result, Ok, Err}
use Rattle.cedar_lexer.specs.Words.{TokenText}
use Rattle.cedar_expressions.specs.Slots.{slots_of}
use Rattle.cedar_expressions.specs.Value.{Value}
use Rattle.cedar_conversion.specs.strict.Extensions.{Extensions}
use Rattle.cedar_writer.specs.declared.output.Output.{Output}
use Rattle.cedar_writer.specs.declared.refusal.NotWritable.{NotWritable}
use Rattle.cedar_writer.specs.declared.refusal.NotWritten.{NotWritten}
use Rattle.cedar_writer.specs.declared.refusal.NotWritten.TheVariants as w
use Rattle.cedar_writer.specs.declared.refusal.NotWritten.TheVariants.{Memory}
use Rattle.cedar_writer.specs.Fitness.{IsUnfitCondition, HasUnfitCondition, IsUnfitPolicy}
use Rattle.cedar_writer.specs.WrittenPolicies.{Parts, conditions_of, IsWritableAction, IsWritableCondition, AreWritableConditions}
use Rattle.cedar_writer.specs.Writable.{IsWritable}
use Rattle.cedar_writer.specs.machines.Outputs.{Adds}

-- an expression in the braces of a condition
abbrev pub IsFreeBody : Extensions → ℕ → Value → Type 0
IsFreeBody table limit a = IsWritable table limit a × (slots_of a ≡ [])

-- its action or a condition is none that some text means, as is told
abbrev pub IsUnwritable : Extensions → ℕ → Parts → NotWritable → Type 0
IsUnwritable table limit parts k =
    IsUnfitPolicy table limit parts.action parts.condition k
    × (IsWritableAction parts.action
    → AreWritableConditions table limit (conditions_of parts.condition) → ⊥)

abbrev pub IsOneUnwritable : Extensions → ℕ → List Parts → NotWritable → Type 0
IsOneUnwritable table limit [] k = ⊥
IsOneUnwritable table limit (x ∷ xs) k =
    IsUnwritable table limit x k ⊎ IsOneUnwritable table limit xs k

abbrev pub AreUnwritable : Extensions → ℕ → List Value → NotWritable → Type 0
AreUnwritable table limit cs k =
    HasUnfitCondition table limit cs k × (AreWritableConditions table limit cs → ⊥)

abbrev pub IsUnwritableCondition : Extensions → ℕ → Value → NotWritable → Type 0
IsUnwritableCondition table limit c k =
    IsUnfitCondition table limit c k × (IsWritableCondition table limit c → ⊥)

abbrev pub IsUnwritableBody : Extensions → ℕ → Value → NotWritable → Type 0
IsUnwritableBody table limit a k =
    IsUnfitCondition table limit a k × (IsFreeBody table limit a → ⊥)

-- these words were written, and this holds; or memory is wanting, or no text means what is there,
-- as is told
abbrev pub Writes : List TokenText → Type 0 → (NotWritable → Type 0) → {T : Type 0}
    → Result T NotWritten → Output → Output → Type 0
Writes ws Holds Refused (Ok _) out out' = Adds out out' ws × Holds
Writes ws Holds Refused (Err Memory) out out' = Unit {0}
Writes ws Holds Refused (Err (w.NotWritable k)) out out' = Refused k

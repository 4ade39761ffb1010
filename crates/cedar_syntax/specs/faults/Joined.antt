-- Results joined: all values, or the failing parts' faults one after another.
use Rattle.std.specs.Prelude.{List, [], ◌∷◌, ◌++◌, ◌≡◌, Option, Some, None, Result, Ok, Err}
use Rattle.std.specs.Option.{option_map}
use Rattle.cedar_syntax.specs.faults.ParseErrors.{faults_of, IsMemory}
use Rattle.cedar_syntax.specs.declared.err.faults.Failure.{Failure}
use Rattle.cedar_syntax.specs.declared.err.faults.Failure.TheVariants.{Memory, Errors}
use Rattle.cedar_syntax.specs.declared.err.faults.ParseError.{ParseError}

abbrev pub failure_faults : Failure → List ParseError
failure_faults (Memory error) = []
failure_faults (Errors errors) = faults_of errors

-- the faults of a part; a value has none
abbrev pub faults_in : {T : Type 0} → Result T Failure → List ParseError
faults_in (Ok value) = []
faults_in (Err failure) = failure_faults failure

-- the failure of a part; a value has none
abbrev pub failures : {T : Type 0} → Result T Failure → List Failure
failures (Ok value) = []
failures (Err failure) = failure ∷ []

-- the faults of parts that fail so, one after another; none where one is want of memory
abbrev pub faults_of_all : List Failure → Option (List ParseError)
faults_of_all [] = Some []
faults_of_all (Memory error ∷ more) = None
faults_of_all (Errors errors ∷ more) =
    option_map (λ faults. faults_of errors ++ faults) (faults_of_all more)

-- The failure of parts that fail so, in order. Of one alone it is that one; of several it is want
-- of memory, or their faults one after another where none of them is want of memory.
abbrev pub IsJoined : Failure → List Failure → Type 0
IsJoined told [] = ⊥
IsJoined told (alone ∷ []) = told ≡ alone
IsJoined (Memory error) (first ∷ second ∷ more) = Unit {0}
IsJoined (Errors errors) (first ∷ second ∷ more) =
    faults_of_all (first ∷ second ∷ more) ≡ Some (faults_of errors)

-- the part is want of memory
abbrev pub WantsMemory : {T : Type 0} → Result T Failure → Type 0
WantsMemory (Ok value) = ⊥
WantsMemory (Err failure) = IsMemory failure

-- The failure of two parts, some of which fail: want of memory, or their faults one after another
-- where no part is want of memory.
abbrev pub TellsBoth : {T U : Type 0} → Failure → Result T Failure → Result U Failure → Type 0
TellsBoth (Memory error) first second = Unit {0}
TellsBoth (Errors errors) first second =
    (faults_of errors ≡ faults_in first ++ faults_in second)
    × (WantsMemory first → ⊥) × (WantsMemory second → ⊥)

-- want of memory, or these faults
abbrev pub TellsFaults : Failure → List ParseError → Type 0
TellsFaults (Memory error) faults = Unit {0}
TellsFaults (Errors errors) faults = faults_of errors ≡ faults

-- The failure of two parts that both fail.
abbrev pub TellsAll : Failure → Failure → Failure → Type 0
TellsAll told (Memory error) second = IsMemory told
TellsAll told (Errors errors) (Memory error) = IsMemory told
TellsAll told (Errors errors) (Errors more) = TellsFaults told (faults_of errors ++ faults_of more)

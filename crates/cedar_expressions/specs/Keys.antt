-- When a record is refused, and which of its keys the refusal names: the first that stands again.
use Rattle.std.specs.Prelude.{ℕ, List, [], ◌∷◌, ◌++◌, Bool, true, false, ◌||◌, ◌≡◌, Option, Some, None}
use Rattle.std.specs.List.{list_any}
use Rattle.std.specs.Str.{bytes_eq}
use Rattle.cedar_expressions.specs.declared.errors.RecordError.{RecordError}
use Rattle.cedar_expressions.specs.declared.errors.RecordError.TheVariants.{Memory, Construction}

-- some key stands again behind itself
abbrev pub repeats_key : List (List ℕ) → Bool
repeats_key [] = false
repeats_key (key ∷ keys) = list_any (bytes_eq key) keys || repeats_key keys

-- the first key that stands again: it is one of those before it, and they all differ
abbrev pub StandsAgain : List ℕ → List (List ℕ) → Type 0
StandsAgain key keys = (before : List (List ℕ)) × (after : List (List ℕ))
    × (keys ≡ before ++ key ∷ after) × (list_any (bytes_eq key) before ≡ true)
    × (repeats_key before ≡ false)

-- what a refusal says of the keys: some key stands twice, and it names the first that stands again
abbrev pub RefusesKeys : RecordError → List (List ℕ) → Type 0
RefusesKeys (Memory _) keys = Unit {0}
RefusesKeys (Construction error) keys = (repeats_key keys ≡ true) × StandsAgain error.key keys

-- what a search for a key that stands twice has found
abbrev pub IsRepeatedKey : Option (List ℕ) → List (List ℕ) → Type 0
IsRepeatedKey None keys = repeats_key keys ≡ false
IsRepeatedKey (Some key) keys = (repeats_key keys ≡ true) × StandsAgain key keys

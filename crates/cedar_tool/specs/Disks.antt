-- What is known of the files of a disk, and what its calls leave.
use Rattle.std.specs.Prelude.{◌≡◌, ◌≢◌, ◌<◌, ℕ, List, length, Option, Some, None, IfSome, ⊤}

-- what stands under each name: no bytes where there is no such file
abbrev pub Files : Type 0
Files = List ℕ → Option (List ℕ)

-- the most bytes that a text has: 256 MiB
abbrev pub longest : ℕ
longest = 268435456

-- the file of a name has these bytes, where that is known
abbrev pub Has : Option Files → List ℕ → List ℕ → Type 0
Has known name bytes = IfSome known (λ files. files name ≡ Some bytes)

-- there is no file of this name, or it is too long, where that is known
abbrev pub Lacks : Option Files → List ℕ → Type 0
Lacks known name = IfSome known (λ files. IfSome (files name) (λ bytes. longest < length bytes))

-- the file of a name has these bytes, and each other file what it had
abbrev pub Puts : Option Files → Option Files → List ℕ → List ℕ → Type 0
Puts None new name bytes = ⊤
Puts (Some old) None name bytes = ⊥
Puts (Some old) (Some new) name bytes =
    (new name ≡ Some bytes) × ((other : List ℕ) → other ≢ name → new other ≡ old other)

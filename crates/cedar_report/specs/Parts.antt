-- A part of a text: some of its bytes, from one of them on.
use Rattle.std.specs.Prelude.{◌≡◌, ℕ, List, length, take, drop}

-- the bytes of a text from one of them on; no bytes are part of each
abbrev pub IsPartAt : List ℕ → ℕ → List ℕ → Type 0
IsPartAt text start part = part ≡ take (length part) (drop start text)

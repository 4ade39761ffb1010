-- Digits without the zeros at their beginning: by these two numbers are compared, however long they
-- are. No public clause cites this module.
use Rattle.std.specs.Prelude.{ℕ, ◌==◌, List, [], ◌∷◌, if◌then◌else◌}

abbrev pub significant : List ℕ → List ℕ
significant [] = []
significant (c ∷ cs) = if c == 48 then significant cs else c ∷ cs

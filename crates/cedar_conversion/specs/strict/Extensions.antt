-- What a text may call beside the methods of every text: extension functions and extension
-- methods, two sets.
use Rattle.std.specs.Prelude.{ℕ, Bool, List}
use Rattle.cedar_expressions.specs.Path.{Path}

pub record Extensions : Type 0 where
  pub functions : Path → Bool
  pub methods : List ℕ → Bool

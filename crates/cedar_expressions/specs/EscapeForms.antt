-- What a way to write a character says of it. No public clause cites this module.
use Rattle.std.specs.Prelude.{ℕ, ◌≡◌, ◌<◌, [], ◌∷◌}
use Rattle.cedar_expressions.specs.declared.escape.Escape.{Escape}
use Rattle.cedar_expressions.specs.declared.escape.Escape.TheVariants.{Plain, Slashed, Numbered}
use Rattle.cedar_expressions.specs.Escapes.{escaped_scalar, code_escape}

abbrev pub StandsAs : ℕ → Escape → Type 0
StandsAs c Plain = escaped_scalar c ≡ c ∷ []
StandsAs c (Slashed letter) = escaped_scalar c ≡ 92 ∷ letter ∷ []
StandsAs c Numbered = (escaped_scalar c ≡ code_escape c) × (c < 0x1_0000)

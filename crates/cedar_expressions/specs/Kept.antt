-- The bytes of a text, wherever they stand. No public clause cites this module.
use Rattle.std.specs.Prelude.{ℕ, List}
use Rattle.std.specs.Rc.{rc_str_bytes}
use Rattle.cedar_expressions.specs.declared.text.Kept.{Kept}

abbrev pub kept_bytes : Kept → List ℕ
kept_bytes (Kept.Short bytes) = bytes
kept_bytes (Kept.Shared shared) = rc_str_bytes shared

-- The escape faults found so far. Contracts of private functions alone name them.
use Rattle.std.specs.Prelude.{ℕ, List, [], Option, Some, None}
use Rattle.cedar_syntax.specs.declared.err.escape.EscapeError.{EscapeError}
use Rattle.cedar_syntax.specs.declared.err.escape.UnescapeError.{UnescapeError}
use Rattle.cedar_syntax.specs.declared.err.non_empty.NonEmpty.{NonEmpty}
use Rattle.cedar_syntax.specs.faults.NonEmpty.{list_of}
use Rattle.cedar_syntax.specs.declared.unescape.faults.Faults.{Faults}

abbrev pub found_list : Option (NonEmpty UnescapeError) → List UnescapeError
found_list None = []
found_list (Some faults) = list_of faults

abbrev pub found_faults : Faults → List UnescapeError
found_faults faults = found_list faults.found

-- a fault at these bytes of a raw text
abbrev pub fault_between : List ℕ → EscapeError → ℕ → ℕ → UnescapeError
fault_between raw kind start end =
    record { kind = kind; input = raw; range = record { start = start; end = end } }

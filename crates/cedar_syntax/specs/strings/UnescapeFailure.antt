-- How the failures of `unescape` are told.
use Rattle.std.specs.Prelude.{List}
use Rattle.cedar_syntax.specs.declared.err.escape.UnescapeError.{UnescapeError}
use Rattle.cedar_syntax.specs.declared.err.escape.UnescapeFailure.{UnescapeFailure}
use Rattle.cedar_syntax.specs.declared.err.escape.UnescapeFailure.TheVariants.{Memory, Errors}
use Rattle.cedar_syntax.specs.faults.NonEmpty.{list_of}

-- memory was wanting, or these are all the faults
abbrev pub Tells : UnescapeFailure → (List UnescapeError → Type 0) → Type 0
Tells (Memory e) P = Unit {0}
Tells (Errors faults) P = P (list_of faults)

-- memory was wanting
abbrev pub LacksMemory : UnescapeFailure → Type 0
LacksMemory (Memory e) = Unit {0}
LacksMemory (Errors faults) = ⊥

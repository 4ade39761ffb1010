-- When a conversion is refused for want of memory alone.
use Rattle.std.proofs.Common.{◌≡◌, Ok, sym, ◌∙◌}
use Rattle.cedar_expressions.specs.Value.{Value}
use Rattle.cedar_syntax.specs.declared.err.faults.Failure.{Failure}
use Rattle.cedar_syntax.specs.declared.err.faults.Failure.TheVariants.{Memory, Errors}
use Rattle.cedar_syntax.specs.faults.ParseErrors.{IsMemory}
use Rattle.cedar_conversion.specs.outcome.Outcome.{Outcome}
use Rattle.cedar_conversion.specs.outcome.Seen.{Refuses}

-- where the outcome gives a value
pub memory_alone : (f : Failure) (o : Outcome Value) (w : Value) → o ≡ Ok w → Refuses f o → IsMemory f
memory_alone (Memory e) o w h k = tt
memory_alone (Errors es) o w h k = let other = sym h ∙ k in cc

-- What becomes of what is still to be written where a value is next.
use Rattle.std.specs.Prelude.{◌≡◌, List, ◌++◌, Result, Ok, Err}
use Rattle.cedar_expressions.specs.Value.{Value}
use Rattle.cedar_conversion.specs.strict.Extensions.{Extensions}
use Rattle.cedar_syntax.specs.tokens.Signs.{sign_limit}
use Rattle.cedar_writer.specs.declared.refusal.NotWritten.{NotWritten}
use Rattle.cedar_writer.specs.declared.refusal.NotWritten.TheVariants.{Memory, NotWritable}
use Rattle.cedar_writer.specs.Fitness.{IsFit, IsUnfit}
use Rattle.cedar_writer.specs.machines.Pending.{Todo, opened_todo}

-- these stand there in its place, and its own node is fit; or it is unfit, or memory is wanting
abbrev pub Turns : Extensions → List Todo → Value → {T : Type 0}
    → Result T NotWritten → List Todo → List Todo → Type 0
Turns table items a (Ok _) old new = (new ≡ items ++ old) × IsFit table sign_limit a
Turns table items a (Err Memory) old new = Unit {0}
Turns table items a (Err (NotWritable k)) old new = IsUnfit table sign_limit a k

abbrev pub Opens : Extensions → Value → {T : Type 0}
    → Result T NotWritten → List Todo → List Todo → Type 0
Opens table a r old new = Turns table (opened_todo table a) a r old new

-- these stand on top, or memory is wanting
abbrev pub Stacks : List Todo → {T : Type 0} → Result T NotWritten → List Todo → List Todo → Type 0
Stacks items (Ok _) old new = new ≡ items ++ old
Stacks items (Err Memory) old new = Unit {0}
Stacks items (Err (NotWritable k)) old new = ⊥

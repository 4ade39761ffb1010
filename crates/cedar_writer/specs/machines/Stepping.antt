-- A turn of the writer, and all of its turns.
use Rattle.std.specs.Prelude.{◌≡◌, ◌+◌, ◌<◌, List, ◌++◌, Result, Ok, Err}
use Rattle.cedar_lexer.specs.Words.{TokenText}
use Rattle.cedar_expressions.specs.Value.{Value}
use Rattle.cedar_conversion.specs.strict.Extensions.{Extensions}
use Rattle.cedar_syntax.specs.tokens.Signs.{sign_limit}
use Rattle.cedar_writer.specs.declared.output.Output.{Output}
use Rattle.cedar_writer.specs.declared.refusal.NotWritten.{NotWritten}
use Rattle.cedar_writer.specs.declared.refusal.NotWritten.TheVariants.{Memory, NotWritable}
use Rattle.cedar_writer.specs.Fitness.{HasUnfit}
use Rattle.cedar_writer.specs.Writable.{IsWritable}
use Rattle.cedar_writer.specs.Writing.{words}
use Rattle.cedar_writer.specs.machines.Outputs.{Adds}
use Rattle.cedar_writer.specs.machines.Pending.{Todo, todo_words, all_words, IsFree, AreFree, StandsIn, StandIn, todo_load, all_loads}

-- what was next was written, or others stand in its place
pub record Stepped (table : Extensions) (next : Todo) (out out' : Output) (old new : List Todo)
    : Type 0 where
  pub done : List TokenText
  pub adds : Adds out out' done
  pub keeps : done ++ all_words table new ≡ todo_words table next ++ all_words table old
  pub forth : AreFree table sign_limit new
      → IsFree table sign_limit next × AreFree table sign_limit old
  pub back : IsFree table sign_limit next → AreFree table sign_limit old
      → AreFree table sign_limit new
  pub stands : (whole : Value) → StandsIn whole next → StandIn whole old → StandIn whole new
  pub lighter : all_loads new < todo_load next + all_loads old

abbrev pub Steps : Extensions → Todo → {T : Type 0} → Result T NotWritten → Output → Output
    → List Todo → List Todo → Type 0
Steps table next (Ok _) out out' old new = Stepped table next out out' old new
Steps table next (Err Memory) out out' old new = Unit {0}
Steps table next (Err (NotWritable k)) out out' old new =
    (IsFree table sign_limit next → ⊥)
    × ((whole : Value) → StandsIn whole next → HasUnfit table sign_limit whole k)

-- what was written of all so far, and what is left of it
pub record Runs (table : Extensions) (all : List Todo) (out out' : Output) (left : List Todo)
    : Type 0 where
  pub done : List TokenText
  pub adds : Adds out out' done
  pub keeps : done ++ all_words table left ≡ all_words table all
  pub forth : AreFree table sign_limit left → AreFree table sign_limit all
  pub back : AreFree table sign_limit all → AreFree table sign_limit left
  pub stands : (whole : Value) → StandIn whole all → StandIn whole left

-- all was written, and is free; or something of it isn't, or memory is wanting
abbrev pub WritesAll : Extensions → List Todo → {T : Type 0} → Result T NotWritten → Output
    → Output → Type 0
WritesAll table todo (Ok _) out out' =
    Adds out out' (all_words table todo) × AreFree table sign_limit todo
WritesAll table todo (Err Memory) out out' = Unit {0}
WritesAll table todo (Err (NotWritable k)) out out' =
    (AreFree table sign_limit todo → ⊥)
    × ((whole : Value) → StandIn whole todo → HasUnfit table sign_limit whole k)

abbrev pub WritesValue : Extensions → Value → {T : Type 0} → Result T NotWritten → Output → Output
    → Type 0
WritesValue table a (Ok _) out out' =
    Adds out out' (words table a) × IsWritable table sign_limit a
WritesValue table a (Err Memory) out out' = Unit {0}
WritesValue table a (Err (NotWritable k)) out out' =
    (IsWritable table sign_limit a → ⊥) × HasUnfit table sign_limit a k

-- What is said of a value, said of an equal one; and of a value whose own node asks for nothing.
use Rattle.std.proofs.Common.{◌≡◌, List, Result, Ok, Err, subst}
use Rattle.cedar_expressions.specs.Value.{Value}
use Rattle.cedar_conversion.specs.strict.Extensions.{Extensions}
use Rattle.cedar_syntax.specs.tokens.Signs.{sign_limit}
use Rattle.cedar_writer.specs.declared.refusal.NotWritten.{NotWritten}
use Rattle.cedar_writer.specs.declared.refusal.NotWritten.TheVariants.{Memory, NotWritable}
use Rattle.cedar_writer.specs.declared.shape.Shape.{Shape}
use Rattle.cedar_writer.specs.Fitness.{IsFit}
use Rattle.cedar_writer.specs.machines.Pending.{Todo}
use Rattle.cedar_writer.specs.machines.Shapes.{IsShapeOf}
use Rattle.cedar_writer.specs.machines.Turns.{Turns, Opens, Stacks}

pub told : (table : Extensions) {T : Type 0} (r : Result T NotWritten) (old new : List Todo) {a b : Value} → a ≡ b → Opens table a r old new → Opens table b r old new
told table r old new e h = subst (λ x. Opens table x r old new) e h

pub shaped : {a b : Value} (s : Shape) → a ≡ b → IsShapeOf a s → IsShapeOf b s
shaped s e h = subst (λ x. IsShapeOf x s) e h

pub puts_turn : (table : Extensions) (items : List Todo) (a : Value) {T : Type 0} (r : Result T NotWritten) (old new : List Todo) → IsFit table sign_limit a → Stacks items r old new → Turns table items a r old new
puts_turn table items a (Ok x) old new fit h = (h, fit)
puts_turn table items a (Err Memory) old new fit h = tt
puts_turn table items a (Err (NotWritable k)) old new fit h = absurd h

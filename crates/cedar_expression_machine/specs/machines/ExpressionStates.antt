-- The states of the machine of expressions.
use Rattle.std.specs.Prelude.{ℕ, List, Option, Some, None}
use Rattle.cedar_syntax.specs.declared.cst.Primary.{Primary}
use Rattle.cedar_expression_machine.specs.declared.expression.state.Spanned.{Spanned}
use Rattle.cedar_expression_machine.specs.declared.expression.state.Branch.{Branch}
use Rattle.cedar_expression_machine.specs.declared.expression.state.PendingOperators.{PendingOperators}
use Rattle.cedar_expression_machine.specs.declared.expression.state.Signs.{Signs}
use Rattle.cedar_expression_machine.specs.declared.expression.state.Operand.{Operand}
use Rattle.cedar_expression_machine.specs.declared.expression.state.Frame.{Frame}
use Rattle.cedar_expression_machine.specs.declared.expression.state.OperandPlace.{OperandPlace}
use Rattle.cedar_expression_machine.specs.declared.expression.state.OperandPlace.TheVariants as place
use Rattle.cedar_expression_machine.specs.declared.expression.state.OperandMode.{OperandMode}
use Rattle.cedar_expression_machine.specs.declared.expression.state.OperandMode.TheVariants as mode
use Rattle.cedar_expression_machine.specs.declared.expression.state.State.{State}
use Rattle.cedar_grammar.specs.declared.reading.extent.Extent.{Extent}
use Rattle.cedar_grammar.specs.grammar.Place.{joint_extent}
use Rattle.cedar_expression_machine.specs.machines.Closing.{fresh, no_signs, operand_of}

-- states

abbrev pub state : List Frame → PendingOperators → OperandMode → State
state st lv m = record { stack = st; levels = lv; mode = m }

-- an operand is wanted, and nothing stands before it
abbrev pub wants : OperandPlace → OperandMode
wants p = mode.Want p no_signs

-- an expression begins within these brackets and `if`s
abbrev pub opening : List Frame → List Branch → OperandPlace → State
opening st bs p = state st (fresh bs) (wants p)

abbrev pub going_on : List Frame → PendingOperators → State
going_on st lv = state st lv (wants place.Operand)

abbrev pub has_operand : List Frame → PendingOperators → Operand → State
has_operand st lv m = state st lv (mode.Have m None)

abbrev pub has_primary : List ℕ → List Frame → PendingOperators → Signs → Spanned Primary → State
has_primary src st lv sg x = has_operand st lv (operand_of src sg x)

-- from an open bracket to its end
abbrev pub around : Extent → Extent → Option Extent
around l m = joint_extent (Some l) (Some m)

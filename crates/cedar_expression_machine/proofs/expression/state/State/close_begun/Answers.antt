use Rattle.std.proofs.Common.{ap}
use Rattle.cedar_expression_machine.specs.declared.expression.state.OperandPlace.TheVariants as place
use Rattle.cedar_expression_machine.specs.declared.expression.state.State.{State}
use Rattle.cedar_expression_machine.specs.machines.Closing.{no_signs}
use Rattle.cedar_expression_machine.proofs.expression.state.State.close_begun.Goals as goal

pub want_again-requires : goal.want_again-requires
want_again-requires c = (place.Operand, no_signs, ap (λ (q : State). q.mode) c.in_ok-item.ensures.after)

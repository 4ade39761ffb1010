use Rattle.std.proofs.Common.{sym, subst}
use Rattle.cedar_expression_machine.specs.declared.expression.state.State.{State}
use Rattle.cedar_expression_machine.specs.machines.ExpressionModes.{HasRecord}
use Rattle.cedar_expression_machine.proofs.expressions.Acted.{colon_record}
use Rattle.cedar_expression_machine.proofs.expression.state.State.end_key.Goals as goal

pub begin_value-requires-clause-record : goal.begin_value-requires-clause-record
begin_value-requires-clause-record c =
    subst (λ (q : State). HasRecord q.stack) (sym c.in_ok-item.ensures.after)
    (colon_record c.args.self.now.stack c.requires.3)

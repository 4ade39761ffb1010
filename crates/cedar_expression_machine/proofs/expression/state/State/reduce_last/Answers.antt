use Rattle.cedar_expression_machine.proofs.expressions.Acted.{on_ok}
use Rattle.cedar_expression_machine.proofs.expressions.Last.{reduced_last}
use Rattle.cedar_expression_machine.proofs.expression.state.State.reduce_last.Goals as goal

pub returns-in-Word : goal.returns-in-Word
returns-in-Word c =
    let s = c.args.self.now in
    on_ok c.reduce.result
    (λ e. reduced_last c.args.builder.source.now s.stack s.levels s.mode c.reduce.new.self c.requires e)
    c.reduce.ensures

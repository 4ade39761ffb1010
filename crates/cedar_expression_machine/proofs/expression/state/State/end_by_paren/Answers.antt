use Rattle.std.proofs.Common.{ap, List}
use Rattle.cedar_syntax.specs.Stacks.{with_top}
use Rattle.cedar_expression_machine.specs.declared.expression.state.Frame.{Frame}
use Rattle.cedar_expression_machine.specs.declared.expression.state.Frame.TheVariants as frame
use Rattle.cedar_expression_machine.proofs.expression.state.State.end_by_paren.Goals as goal

pub close_call-requires : goal.close_call-requires
close_call-requires c =
    let rest = c.in-Some.ensures.value in
    (_, rest.0, ap (λ (st : List Frame). with_top st (frame.Call c.push.new.self)) rest.1)

use Rattle.std.proofs.Common.{ap, List}
use Rattle.cedar_syntax.specs.Stacks.{with_top}
use Rattle.cedar_expression_machine.specs.declared.expression.state.Frame.{Frame}
use Rattle.cedar_expression_machine.specs.declared.expression.state.Frame.TheVariants as frame
use Rattle.cedar_expression_machine.proofs.expression.state.State.end_by_bracket.Goals as goal

pub close_set-requires : goal.close_set-requires
close_set-requires c =
    let rest = c.in-Some.ensures.value in
    (_, rest.0, ap (λ (st : List Frame). with_top st (frame.Set c.push.new.self)) rest.1)

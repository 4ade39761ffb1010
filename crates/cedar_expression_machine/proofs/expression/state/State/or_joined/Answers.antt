use Rattle.std.proofs.Common.{ap}
use Rattle.cedar_expression_machine.specs.declared.expression.state.State.{State}
use Rattle.cedar_expression_machine.proofs.expression.state.State.or_joined.Goals as goal

pub take_chain-chain-requires : goal.take_chain-chain-requires
take_chain-chain-requires c =
    let m = c.requires.operand in
    (_, ap (λ (q : State). q.levels.and) (c.in_ok-link_and.ensures m.0 m.1))

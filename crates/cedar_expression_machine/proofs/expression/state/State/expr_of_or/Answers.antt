use Rattle.std.proofs.Common.{ap, ◌∙◌, Option, None}
use Rattle.cedar_syntax.specs.declared.cst.And.{And}
use Rattle.cedar_expression_machine.specs.declared.expression.state.State.{State}
use Rattle.cedar_expression_machine.specs.machines.Closing.{Plain}
use Rattle.cedar_expression_machine.specs.machines.ExpressionStates.{state}
use Rattle.cedar_expression_machine.proofs.expression.state.State.expr_of_or.Goals as goal

pub take_chain-chain-requires : goal.take_chain-chain-requires
take_chain-chain-requires c =
    let m = c.requires.operand in
    (_, ap (λ (q : State). q.levels.or) (c.in_ok-link_or.ensures m.0 m.1))

pub returns-clause-after : goal.returns-clause-after
returns-clause-after c =
    let t = c.link_or.new.self in
    let m = c.requires.operand in
    ap (λ (a : Option (Plain And)). state t.stack (record t.levels { or = a }) t.mode) c.take_chain-chain.ensures.after
    ∙ ap (λ (q : State). state q.stack (record q.levels { or = None }) q.mode) (c.in_ok-link_or.ensures m.0 m.1)

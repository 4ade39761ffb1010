use Rattle.std.proofs.Common.{ap, ◌∙◌, Option, None}
use Rattle.cedar_syntax.specs.declared.cst.And.{And}
use Rattle.cedar_syntax.specs.declared.cst.Relation.{Relation}
use Rattle.cedar_expression_machine.specs.declared.expression.state.State.{State}
use Rattle.cedar_expression_machine.specs.machines.Closing.{Plain, levels_of}
use Rattle.cedar_expression_machine.specs.machines.ExpressionStates.{going_on, state}
use Rattle.cedar_expression_machine.proofs.expression.state.State.expr_of_and.Goals as goal

pub take_chain-chain-requires : goal.take_chain-chain-requires
take_chain-chain-requires c =
    let m = c.requires.operand in
    (_, ap (λ (q : State). q.levels.and) (c.in_ok-link_and.ensures m.0 m.1))

pub returns-clause-after : goal.returns-clause-after
returns-clause-after c =
    let s = c.args.self.now in
    let t = c.link_and.new.self in
    let m = c.requires.operand in
    ap (λ (a : Option (Plain Relation)). state t.stack (record t.levels { and = a }) t.mode) c.take_chain-chain.ensures.after
    ∙ ap (λ (q : State). state q.stack (record q.levels { and = None }) q.mode) (c.in_ok-link_and.ensures m.0 m.1)
    ∙ ap (λ (o : Option (Plain And)). going_on s.stack (levels_of s.levels.branches o None None None None)) c.requires.or

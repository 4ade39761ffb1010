use Rattle.std.proofs.Common.{ap, ap₂, sym, ◌∙◌, Option, None}
use Rattle.cedar_syntax.specs.declared.cst.Mult.{Mult}
use Rattle.cedar_syntax.specs.declared.cst.MultOp.{MultOp}
use Rattle.cedar_syntax.specs.declared.cst.Unary.{Unary}
use Rattle.cedar_expressions.specs.declared.operators.AddOp.{AddOp}
use Rattle.cedar_expression_machine.specs.declared.expression.state.PendingRelation.{PendingRelation}
use Rattle.cedar_expression_machine.specs.declared.expression.state.PendingOperators.{PendingOperators}
use Rattle.cedar_expression_machine.specs.declared.expression.state.PendingChain.{PendingChain}
use Rattle.cedar_expression_machine.specs.declared.expression.state.State.{State}
use Rattle.cedar_expression_machine.specs.machines.Closing.{add_at, levels_of, relation_with_sum}
use Rattle.cedar_expression_machine.specs.machines.ExpressionStates.{going_on, state}
use Rattle.cedar_expression_machine.proofs.expression.state.State.take_compared.Goals as goal

pub take_common-requires : goal.take_common-requires
take_common-requires c =
    let p = c.requires.common in
    let m = c.requires.operand in
    (_, ap (λ (q : State). q.levels.relation) (c.in_ok-link_common.ensures p.0 m.0 p.1 m.1))

pub returns-clause-closed : goal.returns-clause-closed
returns-clause-closed c m h =
    let src = c.args.builder.source.now in
    let old = c.args.self.now in
    let p = c.requires.common in
    c.take_common.ensures.tree _ (ap (λ (q : State). q.levels.relation) (c.in_ok-link_common.ensures p.0 m p.1 h))
    ∙ sym (ap (λ (l : Option PendingRelation). relation_with_sum src l (add_at src old.levels m)) p.1)

pub returns-clause-after : goal.returns-clause-after
returns-clause-after c =
    let s = c.args.self.now in
    let old = s.levels in
    let t = c.link_common.new.self in
    let p = c.requires.common in
    let m = c.requires.operand in
    let none = c.requires.sums in
    ap (λ (l : PendingOperators). state t.stack l t.mode) c.take_common.ensures.after
    ∙ ap (λ (q : State). state q.stack (record q.levels { relation = None }) q.mode)
    (c.in_ok-link_common.ensures p.0 m.0 p.1 m.1)
    ∙ ap₂ (λ (a : Option (PendingChain Mult AddOp)) (u : Option (PendingChain Unary MultOp)). going_on s.stack (levels_of old.branches old.or old.and None a u)) none.0 none.1

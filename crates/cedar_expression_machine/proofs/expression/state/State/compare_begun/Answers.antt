use Rattle.std.proofs.Common.{◌≡◌, sym, ap, ◌∙◌, Some}
use Rattle.cedar_expression_machine.specs.declared.expression.state.PendingRelation.{PendingRelation}
use Rattle.cedar_expression_machine.specs.declared.expression.state.PendingRelation.TheVariants as left
use Rattle.cedar_expression_machine.specs.declared.expression.state.PendingOperators.{PendingOperators}
use Rattle.cedar_expression_machine.specs.declared.expression.state.State.{State}
use Rattle.cedar_expression_machine.proofs.expressions.Acted.{on_ok, within_begun, within_followed}
use Rattle.cedar_expression_machine.proofs.expression.state.State.compare_begun.Goals as goal

pub returns-in-Is : goal.returns-in-Is
returns-in-Is c =
    let src = c.args.builder.source.now in
    let s = c.args.self.now in
    let t = c.take_operand-operand.new.self in
    let m = c.take_operand-operand.result in
    let y = c.in-Is.field-0 in
    let r : s.levels.relation ≡ Some (left.Is y) =
    sym (ap (λ (q : State). q.levels.relation) c.take_operand-operand.ensures.after)
    ∙ sym (ap (λ (l : PendingOperators). l.relation) c.in_ok-item.ensures.after)
    ∙ c.in-Some.is ∙ ap (λ (l : PendingRelation). Some l) (sym c.as_mut.ensures.value ∙ c.in-Is.is) in
    let h = within_followed src s m y c.requires.2 c.args.mark.op c.args.mark.extent c.take_operand-operand.ensures.operand r c.requires.3 in
    on_ok c.begin_is_in.result
    (λ e. ap (λ (q : State). Some q) (e ∙ within_begun src s t c.close_add.new.self m y c.in_ok-item.item c.args.mark.extent
    c.take_operand-operand.ensures.after c.in_ok-item.ensures.after c.in_ok-item.ensures.closed) ∙ h)
    (c.begin_is_in.ensures y (ap (λ (l : PendingRelation). Some l) c.in-Is.is))

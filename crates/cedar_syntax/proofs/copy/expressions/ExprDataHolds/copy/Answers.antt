use Rattle.std.proofs.Common.{◌++◌, ap, sym, ◌∙◌}
use Rattle.cedar_syntax.specs.declared.cst.ExprData as D
use Rattle.cedar_syntax.specs.trees.Inside.{expr_in}
use Rattle.cedar_syntax.proofs.Copying.{three_held}
use Rattle.cedar_syntax.proofs.InsideForms.{data_if}
use Rattle.cedar_syntax.proofs.copy.expressions.ExprDataHolds.copy.Goals as goal

pub returns-in_ok-guard-in-If-3 : goal.returns-in_ok-guard-in-If-3
returns-in_ok-guard-in-If-3 c rest e =
    let one = c.in_ok-guard-in-If in
    let two = c.in_ok-guard-in-If-2 in
    let three = c.in_ok-guard-in-If-3 in
    let t = three_held (expr_in c.in-If.guard) (expr_in c.in-If.consequent) (expr_in c.in-If.alternative) rest c.args.copies.now c.copy-in-If.new.copies c.copy-in-If-2.new.copies c.copy-in-If-3.new.copies
    c.copy-in-If-2.result one.guard two.guard two.consequent c.in-If.consequent c.copy-in-If-3.result (three.guard, three.consequent) three.alternative c.in-If.alternative
    one.ensures two.ensures c.copy-in-If-2.ensures three.ensures c.copy-in-If-3.ensures (e ∙ ap (λ l. l ++ rest) (data_if _ _ _ _ c.in-If.is)) in
    ((λ i. D.If ((ap (λ p. p.0) t.3 ∙ t.1 ∙ t.0) i) ((ap (λ p. p.1) t.3 ∙ t.2) i) (t.4 i)) ∙ sym c.in-If.is, t.5)

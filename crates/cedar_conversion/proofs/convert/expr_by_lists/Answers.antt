use Rattle.std.proofs.Common.{◌++◌, ap, ◌∙◌}
use Rattle.cedar_syntax.specs.trees.Forms.{located, expr_form}
use Rattle.cedar_conversion.specs.machines.Nested.{lent_nodes, nested}
use Rattle.cedar_conversion.proofs.Outcomes.{given_in}
use Rattle.cedar_conversion.proofs.Taken.{alone}
use Rattle.cedar_conversion.proofs.convert.expr_by_lists.Goals as goal

pub returns : goal.returns
returns g c =
    given_in _ _ _ _ c.take.ensures
    (alone _ c.in_ok-answers.ensures (c.in_ok-in_expr.ensures ∙ ap (λ s. nested (located expr_form c.args.node.now) ++ lent_nodes s) c.new-nested.ensures) c.expression.ensures)

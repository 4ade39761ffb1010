use Rattle.std.proofs.Common.{Err, ap, ◌∙◌}
use Rattle.cedar_syntax.specs.trees.Forms.{located, expr_form}
use Rattle.cedar_conversion.specs.strict.Table.{table_of}
use Rattle.cedar_conversion.proofs.Taken.{too_deep}
use Rattle.cedar_conversion.proofs.nesting.TooDeepNests.answer.Goals as goal

pub returns : goal.returns
returns g c =
    too_deep g.B.ExprBuilderInfallibleBuild.meaning (table_of c.args.styles.now) (located expr_form c.args.node.now) _ _ _ _ (c.put.ensures ∙ ap Err c.from.ensures)

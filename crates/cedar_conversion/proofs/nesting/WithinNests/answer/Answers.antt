use Rattle.cedar_syntax.specs.trees.Forms.{located, expr_form}
use Rattle.cedar_conversion.specs.strict.Table.{table_of}
use Rattle.cedar_conversion.proofs.Taken.{within}
use Rattle.cedar_conversion.proofs.nesting.WithinNests.answer.Goals as goal

pub returns : goal.returns
returns g c =
    within (g.N.Nests.waits (table_of c.args.styles.now)) (located expr_form c.args.node.now) _ _ _ c.expression.ensures

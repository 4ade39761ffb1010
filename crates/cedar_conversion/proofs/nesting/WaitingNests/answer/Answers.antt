use Rattle.cedar_syntax.specs.trees.Forms.{located, expr_form}
use Rattle.cedar_conversion.specs.strict.Table.{table_of}
use Rattle.cedar_conversion.proofs.Taken.{newest, none_waits}
use Rattle.cedar_conversion.proofs.nesting.WaitingNests.answer.Goals as goal

pub returns-in-Some : goal.returns-in-Some
returns-in-Some g c =
    newest g.B.ExprBuilderInfallibleBuild.meaning (table_of c.args.styles.now) (located expr_form c.args.node.now) _ _ _ _ c.in-Some.ensures c.put.ensures

pub returns-in-None : goal.returns-in-None
returns-in-None g c =
    none_waits g.B.ExprBuilderInfallibleBuild.meaning (table_of c.args.styles.now) (located expr_form c.args.node.now) _ _ c.in-None.ensures.0

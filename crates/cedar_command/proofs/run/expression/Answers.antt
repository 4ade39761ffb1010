use Rattle.cedar_conversion.specs.strict.Table.{table_of}
use Rattle.cedar_command.specs.declared.request.Command.TheVariants as command
use Rattle.cedar_command.proofs.WrittenAnswers.{faults_written, tree_written}
use Rattle.cedar_command.proofs.run.expression.Goals as goal

pub returns-in-Ok-clause-written : goal.returns-in-Ok-clause-written
returns-in-Ok-clause-written g c =
    tree_written (table_of c.args.styles.now) c.print_tree.result c.args.text.now c.in-Ok.tree _ _ c.in-Ok.ensures.tree c.print_tree.ensures.verdict c.print_tree.ensures.written

pub returns-in-Err-clause-written : goal.returns-in-Err-clause-written
returns-in-Err-clause-written g c =
    faults_written command.Expression (table_of c.args.styles.now) c.print_failure.result c.args.text.now c.in-Err.failure _ _ c.in-Err.ensures.refused c.print_failure.ensures.verdict c.print_failure.ensures.written

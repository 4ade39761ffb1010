use Rattle.cedar_conversion.specs.strict.Table.{table_of}
use Rattle.cedar_command.specs.declared.request.Command.TheVariants as command
use Rattle.cedar_command.proofs.WrittenAnswers.{faults_written}
use Rattle.cedar_command.proofs.format.format.Goals as goal

pub returns-in-Err-clause-written : goal.returns-in-Err-clause-written
returns-in-Err-clause-written g c =
    faults_written command.Format (table_of c.args.styles.now) c.print_failure.result c.args.text.now c.in-Err.failure _ _ c.in-Err.ensures.refused c.print_failure.ensures.verdict c.print_failure.ensures.written

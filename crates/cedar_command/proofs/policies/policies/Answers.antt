use Rattle.cedar_conversion.specs.strict.Table.{table_of}
use Rattle.cedar_command.specs.declared.request.Command.TheVariants as command
use Rattle.cedar_command.proofs.WrittenAnswers.{faults_written, nothing_begun, set_begun, set_written}
use Rattle.cedar_command.proofs.policies.policies.Goals as goal

pub returns-in-Ok-clause-written : goal.returns-in-Ok-clause-written
returns-in-Ok-clause-written g c =
    set_written (table_of c.args.styles.now) c.print_policies.result c.args.text.now c.in-Ok.set _ _ c.in-Ok.ensures.set c.print_policies.ensures.verdict c.print_policies.ensures.written

pub returns-in-Err-clause-written : goal.returns-in-Err-clause-written
returns-in-Err-clause-written g c =
    faults_written command.Policies (table_of c.args.styles.now) c.print_failure.result c.args.text.now c.in-Err.failure _ _ c.in-Err.ensures.refused c.print_failure.ensures.verdict c.print_failure.ensures.written

pub returns-in-Ok-clause-stops : goal.returns-in-Ok-clause-stops
returns-in-Ok-clause-stops g c =
    set_begun c.print_policies.result (table_of c.args.styles.now) c.args.text.now c.in-Ok.set _ _ c.in-Ok.ensures.set c.print_policies.ensures.stops

pub returns-in-Err-clause-stops : goal.returns-in-Err-clause-stops
returns-in-Err-clause-stops g c =
    nothing_begun c.print_failure.result command.Policies (table_of c.args.styles.now) c.args.text.now _ _ c.print_failure.ensures.stops

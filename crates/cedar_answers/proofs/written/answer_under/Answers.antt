use Rattle.std.proofs.Common.{string_bytes}
use Rattle.cedar_conversion.specs.strict.Table.{table_of}
use Rattle.cedar_policy_parser.specs.faults.Refused.{RefusesSet}
use Rattle.cedar_answers.specs.Answers.{IsWrittenOf}
use Rattle.cedar_answers.proofs.Answering.{told_failure, told_text}
use Rattle.cedar_answers.proofs.written.answer_under.Goals as goal

pub returns-in-Ok : goal.returns-in-Ok
returns-in-Ok c =
    told_text (IsWrittenOf (table_of c.args.styles.now) c.args.text.now) c.args.text.now (string_bytes c.in-Ok.written) c.with_text.result c.with_text.ensures.status c.in-Ok.ensures.meant c.in-Ok.ensures.written c.with_text.ensures.told

pub returns-in-Err : goal.returns-in-Err
returns-in-Err c =
    told_failure (RefusesSet (table_of c.args.styles.now)) c.args.text.now c.in-Err.failure c.refused.result c.utf8.text c.in-Err.ensures.only c.in-Err.ensures.refused c.refused.ensures

use Rattle.cedar_conversion.specs.strict.Table.{table_of}
use Rattle.cedar_command.proofs.WrittenAnswers.{passed}
use Rattle.cedar_command.proofs.run.write_answer.Goals as goal

pub returns-clause-written : goal.returns-clause-written
returns-clause-written g c =
    passed c.args.request.now.command (table_of c.args.request.now.styles) c.args.text.now c.in_ok-verdict.verdict _ _ _ c.in_ok-verdict.ensures.written c.flush.ensures.kept

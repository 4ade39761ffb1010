use Rattle.std.proofs.Common.{refl, inl}
use Rattle.cedar_command.proofs.WrittenAnswers.{begun, begun_asked, verdict_asked, written_asked}
use Rattle.cedar_command.proofs.run.answer_text.Goals as goal

pub returns-in-Ok-clause-verdict : goal.returns-in-Ok-clause-verdict
returns-in-Ok-clause-verdict g c =
    verdict_asked c.write_answer.result _ c.args.command _ _ c.args.text.now c.in-Ok.ensures c.write_answer.ensures.verdict

pub returns-in-Ok-clause-written : goal.returns-in-Ok-clause-written
returns-in-Ok-clause-written g c =
    written_asked c.write_answer.result _ c.args.command _ _ c.args.text.now _ c.in-Ok.ensures c.write_answer.ensures.written

pub returns-in-Ok-clause-stops : goal.returns-in-Ok-clause-stops
returns-in-Ok-clause-stops g c =
    begun_asked c.write_answer.result _ c.args.command _ _ c.args.text.now _ _ c.in-Ok.ensures c.write_answer.ensures.stops

pub returns-in-Err-clause-stops : goal.returns-in-Err-clause-stops
returns-in-Err-clause-stops g c = inl (refl, begun c.args.command _ c.args.text.now _ refl)

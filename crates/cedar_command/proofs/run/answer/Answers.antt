use Rattle.std.proofs.Common.{refl}
use Rattle.cedar_command.proofs.Verdicts.{err_on}
use Rattle.cedar_command.proofs.Endings.{unread, was_read, answered, not_answered}
use Rattle.cedar_command.proofs.run.answer.Goals as goal

pub returns-in_err-text-clause-stops : goal.returns-in_err-text-clause-stops
returns-in_err-text-clause-stops g c =
    err_on c.from_residual.result c.in_err-text.field-0.0 _ c.from_residual.ensures.1
    (unread _ _ _ _ _ _ refl c.in_err-text.ensures.err)

pub returns-clause-answered : goal.returns-clause-answered
returns-clause-answered g c = answered c.answer_text.result _ _ _ _ _
    (was_read _ _ _ c.in_ok-text.ensures.text c.as_str.ensures.value c.as_str.utf8) c.answer_text.ensures.verdict c.answer_text.ensures.written

pub returns-clause-stops : goal.returns-clause-stops
returns-clause-stops g c = not_answered c.answer_text.result _ _ _ _ _ _
    (was_read _ _ _ c.in_ok-text.ensures.text c.as_str.ensures.value c.as_str.utf8) c.in_ok-text.ensures.ok c.answer_text.ensures.stops

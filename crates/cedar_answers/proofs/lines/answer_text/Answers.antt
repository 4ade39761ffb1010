use Rattle.std.proofs.Common.{subst}
use Rattle.cedar_answers.specs.Answers.{AnswersHost, AnswersLines}
use Rattle.cedar_answers.proofs.lines.answer_text.Goals as goal

pub returns-in-Ok : goal.returns-in-Ok
returns-in-Ok c = subst (λ table. AnswersLines table c.args.text.now c.answer_under.result) c.in-Ok.ensures c.answer_under.ensures

pub returns-in-Err : goal.returns-in-Err
returns-in-Err c = AnswersHost.no_memory c.bare.ensures.status c.utf8.text c.bare.ensures.nothing

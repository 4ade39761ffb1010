use Rattle.std.proofs.Common.{subst}
use Rattle.cedar_conversion.specs.strict.CedarExtensions.{cedar_extensions}
use Rattle.cedar_answers.specs.Answers.{AnswersHost, AnswersWritten}
use Rattle.cedar_answers.proofs.written.answer.Goals as goal

pub returns-in-Ok : goal.returns-in-Ok
returns-in-Ok c = subst (λ t. AnswersWritten cedar_extensions t c.answer_text.result) c.in-Ok.ensures.cases.0 c.answer_text.ensures

pub returns-in-Err : goal.returns-in-Err
returns-in-Err c = AnswersHost.no_text c.bare.ensures.status c.in-Err.ensures.cases.0 c.bare.ensures.nothing

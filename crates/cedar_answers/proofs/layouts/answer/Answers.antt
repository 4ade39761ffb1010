use Rattle.std.proofs.Common.{subst}
use Rattle.cedar_answers.specs.Answers.{AnswersHost, AnswersLayout}
use Rattle.cedar_answers.proofs.layouts.answer.Goals as goal

pub returns-in-Ok : goal.returns-in-Ok
returns-in-Ok c =
    subst (λ t. AnswersLayout (record { width = c.args.width; indent = c.args.indent }) t c.answer_text.result) c.in-Ok.ensures.cases.0 c.answer_text.ensures

pub returns-in-Err : goal.returns-in-Err
returns-in-Err c = AnswersHost.no_text c.bare.ensures.status c.in-Err.ensures.cases.0 c.bare.ensures.nothing

use Rattle.std.proofs.Common.{string_bytes}
use Rattle.cedar_answers.specs.Answers.{IsLaidOutText, RefusesTree}
use Rattle.cedar_answers.proofs.Answering.{told_failure, told_text}
use Rattle.cedar_answers.proofs.layouts.answer_text.Goals as goal

pub returns-in-Ok : goal.returns-in-Ok
returns-in-Ok c =
    told_text (IsLaidOutText c.args.options.now c.args.text.now) c.args.text.now (string_bytes c.in-Ok.out) c.with_text.result c.with_text.ensures.status c.in-Ok.ensures.read c.in-Ok.ensures.laid c.with_text.ensures.told

pub returns-in-Err : goal.returns-in-Err
returns-in-Err c = told_failure RefusesTree c.args.text.now c.in-Err.failure c.refused.result c.utf8.text c.in-Err.ensures.only c.in-Err.ensures.refused c.refused.ensures

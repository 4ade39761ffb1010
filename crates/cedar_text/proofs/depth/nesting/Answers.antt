use Rattle.std.proofs.Common.{Some, ◌∙◌, subst}
use Rattle.cedar_lexer.specs.LexerState.{LexerAnswers}
use Rattle.cedar_text.proofs.Counting.{none_counted, next_counted, all_counted, stopped_counted}
use Rattle.cedar_text.proofs.depth.nesting.Goals as goal

pub loop-answer-init : goal.loop-answer-init
loop-answer-init c = none_counted _ _ c.utf8.text (c.into_iter-answer-iterator.ensures.into_iter_gives ∙ c.new-answer-items.ensures)

pub loop-answer-preserved : goal.loop-answer-preserved
loop-answer-preserved c =
    next_counted c.in-Ok.token c.loop-answer.invariant
    (subst (λ r. LexerAnswers c.loop-answer.answer-iterator (Some r) c.next.new.self) c.in-Ok.is c.in-Some.ensures.steps)
    c.depth_behind-depth.ensures c.max-deepest.ensures

pub returns-in-Err : goal.returns-in-Err
returns-in-Err c =
    stopped_counted c.in-Err.field-0 c.loop-answer.invariant
    (subst (λ r. LexerAnswers c.loop-answer.answer-iterator (Some r) c.next.new.self) c.in-Err.is c.in-Some.ensures.steps)

pub returns : goal.returns
returns c = all_counted c.loop-answer.invariant c.in-None.ensures.steps

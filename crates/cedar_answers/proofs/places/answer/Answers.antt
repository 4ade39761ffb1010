use Rattle.std.proofs.Common.{refl, subst}
use Rattle.cedar_answers.specs.Places.{IsPlaced}
use Rattle.cedar_answers.proofs.places.answer.Goals as goal

pub returns-in-Ok : goal.returns-in-Ok
returns-in-Ok c = subst (λ t. IsPlaced t c.args.offset c.answer_text.result.status c.answer_text.result.position) c.in-Ok.ensures.cases.0 c.answer_text.ensures

pub returns-in-Err : goal.returns-in-Err
returns-in-Err c = IsPlaced.no_text refl c.in-Err.ensures.cases.0 refl

use Rattle.std.proofs.Common.{refl, ap, ◌∙◌}
use Rattle.cedar_report.specs.Spots.{spot_of}
use Rattle.cedar_answers.specs.Places.{IsPlaced, spot_position}
use Rattle.cedar_answers.proofs.places.answer_text.Goals as goal

pub returns-in-Ok : goal.returns-in-Ok
returns-in-Ok c = IsPlaced.placed refl c.utf8.text (c.position_of.ensures ∙ ap spot_position (c.spot.ensures ∙ ap (λ t. spot_of t c.args.offset) c.in-Ok.ensures))

pub returns-in-Err : goal.returns-in-Err
returns-in-Err c = IsPlaced.no_memory refl c.utf8.text refl

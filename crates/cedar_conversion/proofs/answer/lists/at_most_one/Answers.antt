use Rattle.std.proofs.Common.{◌<◌, ◌≤◌, length, arith}
use Rattle.std.proofs.lemmas.Grind.{common_steps}
use Rattle.cedar_conversion.proofs.Outcomes.{refuses}
use Rattle.cedar_conversion.proofs.Parts.{several, one}
use Rattle.cedar_conversion.proofs.answer.lists.at_most_one.Goals as goal

pub returns-then-parts-gt1 : goal.returns-then-parts-gt1
returns-then-parts-gt1 g c f =
    let some : 1 < length c.args.parts.now = grind (arith, common_steps) in
    refuses c.refusal.result _ _ _ (several c.args.loc.now f c.args.parts.now some) c.refusal.ensures

pub returns-else-parts-gt1 : goal.returns-else-parts-gt1
returns-else-parts-gt1 g c f =
    let few : length c.args.parts.now ≤ 1 = grind (arith, common_steps) in
    one c.args.loc.now f c.args.parts.now few

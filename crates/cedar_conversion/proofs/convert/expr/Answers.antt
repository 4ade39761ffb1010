use Rattle.std.proofs.Common.{◌∙◌}
use Rattle.cedar_conversion.proofs.Outcomes.{given_in}
use Rattle.cedar_conversion.proofs.Taken.{given_all}
use Rattle.cedar_conversion.proofs.convert.expr.Goals as goal

pub returns : goal.returns
returns g c = given_in _ _ _ _ (c.put-else-answers.ensures ∙ c.take.ensures) (given_all (λ a b d ns. tt) c.expression.ensures)

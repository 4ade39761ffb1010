use Rattle.std.proofs.Common.{ap, ◌∙◌}
use Rattle.cedar_conversion.specs.outcome.Held.{as_expression}
use Rattle.cedar_conversion.specs.outcome.Outcome.{both, next}
use Rattle.cedar_conversion.specs.machines.Views.{plain, sides_outcome}
use Rattle.cedar_conversion.proofs.Outcomes.{behind_refused, both_with, gives_left, next_next, refused_next}
use Rattle.cedar_conversion.proofs.operators.chain.comparison_in.Goals as goal

pub returns-in-Ok : goal.returns-in-Ok
returns-in-Ok g c x y h k =
    let value = rw c.in-Ok.is at (c.value_in.ensures y k) in
    gives_left _ _ _ _ _ c.put.ensures (ap (λ z. next (both x z) (sides_outcome c.args.loc.now c.args.op)) value ∙ both_with x _ _ ∙ next_next x as_expression _) (c.compared.ensures x h)

pub returns-in-Err : goal.returns-in-Err
returns-in-Err g c x y h k =
    let failed = rw c.in-Err.is at (c.value_in.ensures y k) in
    rw c.put-in-Err.ensures (refused_next c.behind.result _ _ (behind_refused (plain g.B.ExprBuilderInfallibleBuild.meaning) _ c.in-Err.failure x (next y as_expression) c.behind.result h failed c.behind.ensures))

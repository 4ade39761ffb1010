use Rattle.cedar_conversion.specs.machines.Applied.{seen_access}
use Rattle.cedar_conversion.specs.machines.Views.{plain}
use Rattle.cedar_conversion.proofs.Outcomes.{behind_refused, both_with, given_in, gives_at, refused_next}
use Rattle.cedar_conversion.proofs.answer.lone_access_in.Goals as goal

pub returns-in-Ok : goal.returns-in-Ok
returns-in-Ok g c x a h k =
    let given = rw c.in-Ok.is at (given_in (seen_access g.B.ExprBuilderInfallibleBuild.meaning) _ _ a c.take.ensures k) in
    rw given (gives_at (plain g.B.ExprBuilderInfallibleBuild.meaning) _ _ _ (both_with x _ _) (c.lone_accessed_in.ensures x h))

pub returns-in-Err : goal.returns-in-Err
returns-in-Err g c x a h k =
    let given = rw c.in-Err.is at (given_in (seen_access g.B.ExprBuilderInfallibleBuild.meaning) _ _ a c.take.ensures k) in
    rw c.put.ensures (refused_next c.behind.result _ _ (behind_refused (plain g.B.ExprBuilderInfallibleBuild.meaning) _ c.in-Err.failure x a c.behind.result h given c.behind.ensures))

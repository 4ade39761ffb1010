use Rattle.cedar_conversion.proofs.Outcomes.{value_grown, refusal_grown}
use Rattle.cedar_conversion.proofs.answer.lists.more.Goals as goal

pub returns-in-Ok : goal.returns-in-Ok
returns-in-Ok g c operator ps x h k = value_grown operator g.B.ExprBuilderInfallibleBuild.meaning _ c.args.op c.in-Ok.value _ ps x h (rw c.in-Ok.is at k) c.add_item.ensures

pub returns-in-Err : goal.returns-in-Err
returns-in-Err g c operator ps x h k = refusal_grown operator g.B.ExprBuilderInfallibleBuild.meaning _ c.args.op c.in-Err.failure _ ps x h (rw c.in-Err.is at k) c.add_failure.ensures

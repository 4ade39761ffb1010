use Rattle.cedar_conversion.specs.machines.Views.{plain}
use Rattle.cedar_conversion.proofs.Outcomes.{gives_at, next_next}
use Rattle.cedar_conversion.proofs.operators.sides.like_from.Goals as goal

pub returns : goal.returns
returns g c x h k l =
    gives_at (plain g.B.ExprBuilderInfallibleBuild.meaning) c.match_from.result _ _ (next_next h _ _) (c.match_from.ensures _ (c.pattern_beside.ensures x h k l))

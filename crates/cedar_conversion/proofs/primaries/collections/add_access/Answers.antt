use Rattle.cedar_conversion.specs.machines.Applied.{seen_access}
use Rattle.cedar_conversion.proofs.Outcomes.{grown_gives}
use Rattle.cedar_conversion.proofs.primaries.collections.add_access.Goals as goal

pub returns : goal.returns
returns g c xs x h k = grown_gives (seen_access g.B.ExprBuilderInfallibleBuild.meaning) _ _ _ xs x h (rw c.take.ensures k) c.add.ensures

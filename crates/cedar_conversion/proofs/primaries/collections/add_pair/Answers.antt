use Rattle.cedar_conversion.specs.machines.Applied.{seen_pair}
use Rattle.cedar_conversion.proofs.Outcomes.{grown_gives}
use Rattle.cedar_conversion.proofs.primaries.collections.add_pair.Goals as goal

pub returns : goal.returns
returns g c xs x h k = grown_gives (seen_pair g.B.ExprBuilderInfallibleBuild.meaning) _ _ _ xs x h k c.add.ensures

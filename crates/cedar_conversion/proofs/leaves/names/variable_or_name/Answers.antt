use Rattle.std.proofs.Common.{sym}
use Rattle.cedar_conversion.proofs.leaves.names.variable_or_name.Goals as goal

pub returns-in-Some : goal.returns-in-Some
returns-in-Some g c = rw (c.put.ensures, sym c.variable_in.ensures, c.in-Some.is) (c.variable_at.ensures g.B.ExprBuilderInfallibleBuild.meaning)

pub returns-in-None : goal.returns-in-None
returns-in-None g c = rw (c.put-in-None.ensures, sym c.variable_in.ensures, c.in-None.is) (c.name_with.ensures g.B.ExprBuilderInfallibleBuild.meaning)

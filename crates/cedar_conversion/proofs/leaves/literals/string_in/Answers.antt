use Rattle.cedar_conversion.proofs.leaves.literals.string_in.Goals as goal

pub returns : goal.returns
returns g c = rw c.put.ensures (c.raw_string.ensures g.B.ExprBuilderInfallibleBuild.meaning)

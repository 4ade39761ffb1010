use Rattle.cedar_conversion.proofs.leaves.literals.truth_in.Goals as goal

pub returns : goal.returns
returns g c = rw c.put.ensures (c.truth.ensures g.B.ExprBuilderInfallibleBuild.meaning)

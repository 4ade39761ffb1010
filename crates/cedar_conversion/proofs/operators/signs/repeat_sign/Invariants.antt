use Rattle.std.proofs.Common.{◌≡◌}
use Rattle.cedar_expressions.specs.Meaning.{operator_call}
use Rattle.cedar_conversion.specs.strict.Strict.{iteration}
use Rattle.cedar_conversion.proofs.operators.signs.repeat_sign.Given as goal

abbrev pub invariant-loop-i : goal.invariant-loop-i
invariant-loop-i g l = g.B.ExprBuilderInfallibleBuild.meaning l.all ≡ iteration l.i (operator_call l.op) (g.B.ExprBuilderInfallibleBuild.meaning l.fn.inner)

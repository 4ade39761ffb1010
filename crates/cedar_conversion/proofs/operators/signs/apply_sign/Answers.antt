use Rattle.std.proofs.Common.{◌<◌, arith}
use Rattle.cedar_expressions.specs.Meaning.{operator_call}
use Rattle.cedar_conversion.specs.machines.Views.{plain}
use Rattle.cedar_conversion.proofs.Outcomes.{passed_on}
use Rattle.cedar_conversion.proofs.Signed.{refused_by}
use Rattle.cedar_conversion.proofs.operators.signs.apply_sign.Goals as goal

pub returns-in_err-inner : goal.returns-in_err-inner
returns-in_err-inner g c x h =
    let positive : 0 < c.args.count = grind (arith, c.if-count-eq0.false) in
    passed_on (plain g.B.ExprBuilderInfallibleBuild.meaning) c.from_residual.result c.in_err-inner.field-0.0 _ c.from_residual.ensures.1
    (refused_by c.args.loc.now c.args.count (operator_call c.args.op) x c.in_err-inner.field-0.0 positive (c.in_err-inner.ensures x h))

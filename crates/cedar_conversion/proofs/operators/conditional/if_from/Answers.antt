use Rattle.cedar_conversion.specs.machines.Views.{plain}
use Rattle.cedar_conversion.proofs.Outcomes.{both_gives, both_refused, refused_next, passed_on}
use Rattle.cedar_conversion.proofs.operators.conditional.if_from.Goals as goal

pub returns-in_err-guard : goal.returns-in_err-guard
returns-in_err-guard g c x y z h k l =
    let m = g.B.ExprBuilderInfallibleBuild.meaning in
    let two = both_gives m m c.args.guard c.args.consequent c.flatten_tuple_2-first_two.result x y c.flatten_tuple_2-first_two.ensures.both c.flatten_tuple_2-first_two.ensures.faults h k in
    let all = both_refused _ m c.flatten_tuple_2-first_two.result c.args.alternative _ z c.in_err-guard.field-0.0 two l c.in_err-guard.ensures.faults in
    passed_on (plain m) c.from_residual.result c.in_err-guard.field-0.0 _ c.from_residual.ensures.1 (refused_next c.in_err-guard.field-0.0 _ _ all)

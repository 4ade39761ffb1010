use Rattle.std.proofs.Common.{◌≡◌, map}
use Rattle.cedar_expressions.specs.declared.operators.AddOp.{AddOp}
use Rattle.cedar_expressions.specs.Value.{Value}
use Rattle.cedar_cases.proofs.counted.split_terms.Given as goal

abbrev pub invariant-loop-op : goal.invariant-loop-op
invariant-loop-op g l =
    map {B = AddOp × Value} (λ t. (t.0, g.B.ExprBuilderInfallibleBuild.meaning t.1)) l.exprs.items
    ≡ map (λ t. (t.0, g.B.ExprBuilderInfallibleBuild.meaning t.1.expr)) l.yielded

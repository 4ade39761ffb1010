use Rattle.std.proofs.Common.{◌≡◌, map}
use Rattle.cedar_cases.proofs.counted.split_items.Given as goal

abbrev pub invariant-loop-item : goal.invariant-loop-item
invariant-loop-item g l =
    map g.B.ExprBuilderInfallibleBuild.meaning l.exprs.items
    ≡ map (λ c. g.B.ExprBuilderInfallibleBuild.meaning c.expr) l.yielded

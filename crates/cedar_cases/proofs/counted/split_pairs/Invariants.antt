use Rattle.std.proofs.Common.{◌≡◌, map, List, ℕ}
use Rattle.cedar_expressions.specs.Value.{Value}
use Rattle.cedar_cases.proofs.counted.split_pairs.Given as goal

abbrev pub invariant-loop-key : goal.invariant-loop-key
invariant-loop-key g l =
    (map {B = List ℕ × Value} (λ p. (p.0, g.B.ExprBuilderInfallibleBuild.meaning p.1)) l.exprs.items
    ≡ map (λ p. (p.0, g.B.ExprBuilderInfallibleBuild.meaning p.1.expr)) l.yielded)
    × (map (λ p. p.0) l.exprs.items ≡ map (λ p. p.0) l.yielded)

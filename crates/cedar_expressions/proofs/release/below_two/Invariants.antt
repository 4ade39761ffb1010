use Rattle.std.proofs.Common.{◌≤◌}
use Rattle.cedar_expressions.specs.Forks.{two_forks}
use Rattle.cedar_expressions.proofs.release.below_two.Given as goal

abbrev pub invariant-loop-parts : goal.invariant-loop-parts
invariant-loop-parts l = two_forks l.parts.value ≤ two_forks l.fn.parts.value

abbrev pub decreases-loop-parts : goal.decreases-loop-parts
decreases-loop-parts l = two_forks l.parts.value

use Rattle.std.proofs.Common.{◌≡◌, map}
use Rattle.cedar_conversion.proofs.answer.lists.bodies_of.Given as goal

abbrev pub invariant-loop-value : goal.invariant-loop-value
invariant-loop-value g l = l.all.items ≡ map (λ p. p.1) l.yielded

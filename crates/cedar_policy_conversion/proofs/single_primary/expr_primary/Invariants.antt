use Rattle.std.proofs.Common.{◌≡◌}
use Rattle.cedar_syntax.specs.trees.Forms.{located, expr_form, primary_form}
use Rattle.cedar_conversion.specs.machines.Nested.{nested}
use Rattle.cedar_conversion.proofs.Weights.{all_weight}
use Rattle.cedar_policy_conversion.specs.References.{lone}
use Rattle.cedar_policy_conversion.proofs.single_primary.expr_primary.Given as goal

abbrev pub invariant-loop-inner : goal.invariant-loop-inner
invariant-loop-inner l = lone (located expr_form l.fn.node) ≡ lone (located primary_form l.primary)

abbrev pub decreases-loop-inner : goal.decreases-loop-inner
decreases-loop-inner l = all_weight (nested (located primary_form l.primary))

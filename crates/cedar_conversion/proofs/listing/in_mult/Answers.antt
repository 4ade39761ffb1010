use Rattle.std.proofs.Common.{◌∙◌}
use Rattle.cedar_syntax.specs.trees.Forms.{mult_form}
use Rattle.cedar_conversion.proofs.Nested.{none, level, mult_level}
use Rattle.cedar_conversion.proofs.Walked.{behind, nothing, on_ok}
use Rattle.cedar_conversion.proofs.listing.in_mult.Goals as goal

pub returns-in_ok-in_factors-in-Some : goal.returns-in_ok-in_factors-in-Some
returns-in_ok-in_factors-in-Some c =
    on_ok c.in_unary.result (λ h. behind _ _ _ _ _ _ (level mult_form c.args.node.now _ c.in-Some.is ∙ mult_level _) h (rw c.as_slice.ensures at c.in_ok-in_factors-in-Some.ensures)) c.in_unary.ensures

pub returns-in-None : goal.returns-in-None
returns-in-None c = nothing _ _ (none mult_form c.args.node.now c.in-None.is)

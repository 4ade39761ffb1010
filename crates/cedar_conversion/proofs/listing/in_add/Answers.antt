use Rattle.std.proofs.Common.{◌∙◌}
use Rattle.cedar_syntax.specs.trees.Forms.{add_form}
use Rattle.cedar_conversion.proofs.Nested.{none, level, add_level}
use Rattle.cedar_conversion.proofs.Walked.{behind, nothing, on_ok}
use Rattle.cedar_conversion.proofs.listing.in_add.Goals as goal

pub returns-in_ok-in_terms-in-Some : goal.returns-in_ok-in_terms-in-Some
returns-in_ok-in_terms-in-Some c =
    on_ok c.in_mult.result (λ h. behind _ _ _ _ _ _ (level add_form c.args.node.now _ c.in-Some.is ∙ add_level _) h (rw c.as_slice.ensures at c.in_ok-in_terms-in-Some.ensures)) c.in_mult.ensures

pub returns-in-None : goal.returns-in-None
returns-in-None c = nothing _ _ (none add_form c.args.node.now c.in-None.is)

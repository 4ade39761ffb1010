use Rattle.std.proofs.Common.{◌∙◌}
use Rattle.cedar_syntax.specs.trees.Forms.{or_form}
use Rattle.cedar_conversion.proofs.Nested.{none, level, or_level}
use Rattle.cedar_conversion.proofs.Walked.{behind, nothing, on_ok}
use Rattle.cedar_conversion.proofs.listing.in_or.Goals as goal

pub returns-in_ok-in_ands-in-Some : goal.returns-in_ok-in_ands-in-Some
returns-in_ok-in_ands-in-Some c =
    on_ok c.in_and.result (λ h. behind _ _ _ _ _ _ (level or_form c.args.node.now _ c.in-Some.is ∙ or_level _) h (rw c.as_slice.ensures at c.in_ok-in_ands-in-Some.ensures)) c.in_and.ensures

pub returns-in-None : goal.returns-in-None
returns-in-None c = nothing _ _ (none or_form c.args.node.now c.in-None.is)

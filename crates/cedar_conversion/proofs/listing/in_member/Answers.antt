use Rattle.std.proofs.Common.{◌∙◌}
use Rattle.cedar_syntax.specs.trees.Forms.{member_form}
use Rattle.cedar_conversion.proofs.Nested.{none, level, member_level}
use Rattle.cedar_conversion.proofs.Walked.{behind, nothing, on_ok}
use Rattle.cedar_conversion.proofs.listing.in_member.Goals as goal

pub returns-in_ok-in_accesses-in-Some : goal.returns-in_ok-in_accesses-in-Some
returns-in_ok-in_accesses-in-Some c =
    on_ok c.in_primary.result (λ h. behind _ _ _ _ _ _ (level member_form c.args.node.now _ c.in-Some.is ∙ member_level _) h (rw c.as_slice.ensures at c.in_ok-in_accesses-in-Some.ensures)) c.in_primary.ensures

pub returns-in-None : goal.returns-in-None
returns-in-None c = nothing _ _ (none member_form c.args.node.now c.in-None.is)

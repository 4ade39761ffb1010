use Rattle.std.proofs.Common.{◌∙◌}
use Rattle.cedar_syntax.specs.trees.Forms.{and_form}
use Rattle.cedar_conversion.proofs.Nested.{none, level, and_level}
use Rattle.cedar_conversion.proofs.Walked.{behind, nothing, on_ok}
use Rattle.cedar_conversion.proofs.listing.in_and.Goals as goal

pub returns-in_ok-in_relations-in-Some : goal.returns-in_ok-in_relations-in-Some
returns-in_ok-in_relations-in-Some c =
    on_ok c.in_relation.result (λ h. behind _ _ _ _ _ _ (level and_form c.args.node.now _ c.in-Some.is ∙ and_level _) h (rw c.as_slice.ensures at c.in_ok-in_relations-in-Some.ensures)) c.in_relation.ensures

pub returns-in-None : goal.returns-in-None
returns-in-None c = nothing _ _ (none and_form c.args.node.now c.in-None.is)

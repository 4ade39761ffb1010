use Rattle.std.proofs.Common.{refl, ◌∙◌}
use Rattle.cedar_syntax.specs.trees.Forms.{relation_form}
use Rattle.cedar_conversion.proofs.Nested.{none, level, common, has, like, type_test}
use Rattle.cedar_conversion.proofs.Walked.{at, behind, nothing, on_ok}
use Rattle.cedar_conversion.proofs.listing.in_relation.Goals as goal

pub returns-in_ok-in_sides-in-Some-Common : goal.returns-in_ok-in_sides-in-Some-Common
returns-in_ok-in_sides-in-Some-Common c =
    on_ok c.in_add.result (λ h. behind _ _ _ _ _ _ (level relation_form c.args.node.now _ c.in-Some-Common.is ∙ common _ _ _ (rw c.in-Some-Common.is at c.in-Some-Common.field-0-is)) h (rw c.as_slice.ensures at c.in_ok-in_sides-in-Some-Common.ensures)) c.in_add.ensures

pub returns-in-Some-Has : goal.returns-in-Some-Has
returns-in-Some-Has c =
    on_ok c.in_add-in-Some-Has.result (λ h. at _ _ _ _ (level relation_form c.args.node.now _ c.in-Some-Has.is ∙ has _ _ _ (rw c.in-Some-Has.is at c.in-Some-Has.field-0-is)) h) c.in_add-in-Some-Has.ensures

pub returns-in_ok-in_add-in-Some-Like : goal.returns-in_ok-in_add-in-Some-Like
returns-in_ok-in_add-in-Some-Like c =
    on_ok c.in_add-in-Some-Like-2.result (λ h. behind _ _ _ _ _ _ (level relation_form c.args.node.now _ c.in-Some-Like.is ∙ like _ _ _ (rw c.in-Some-Like.is at c.in-Some-Like.field-0-is)) h (rw c.as_ref.ensures at c.in_ok-in_add-in-Some-Like.ensures)) c.in_add-in-Some-Like-2.ensures

pub returns-in_ok-in_add-in-Some-IsIn : goal.returns-in_ok-in_add-in-Some-IsIn
returns-in_ok-in_add-in-Some-IsIn c =
    on_ok c.in_add-in-Some-IsIn-2.result (λ h. behind _ _ _ _ _ _ (level relation_form c.args.node.now _ c.in-Some-IsIn.is ∙ type_test _ _ _ _ (rw c.in-Some-IsIn.is at c.in-Some-IsIn.field-0-is)) h (behind _ _ _ _ _ _ refl (rw c.as_ref-in-Some-IsIn.ensures at c.in_ok-in_add-in-Some-IsIn.ensures) c.in_ok-in_within-in-Some-IsIn.ensures)) c.in_add-in-Some-IsIn-2.ensures

pub returns-in-None : goal.returns-in-None
returns-in-None c = nothing _ _ (none relation_form c.args.node.now c.in-None.is)

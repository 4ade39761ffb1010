use Rattle.std.proofs.Common.{◌∙◌}
use Rattle.cedar_syntax.specs.trees.Forms.{primary_form}
use Rattle.cedar_conversion.proofs.Nested.{none, level, literal, reference, name, slot, parens, list, inits}
use Rattle.cedar_conversion.proofs.Walked.{at, nothing, on_ok, one}
use Rattle.cedar_conversion.proofs.listing.in_primary.Goals as goal

pub returns-in-Some-Literal : goal.returns-in-Some-Literal
returns-in-Some-Literal c = nothing _ _ (level primary_form c.args.node.now _ c.in-Some-Literal.is ∙ literal _ _ (rw c.in-Some-Literal.is at c.in-Some-Literal.field-0-is))

pub returns-in-Some-Ref : goal.returns-in-Some-Ref
returns-in-Some-Ref c = nothing _ _ (level primary_form c.args.node.now _ c.in-Some-Ref.is ∙ reference _ _ (rw c.in-Some-Ref.is at c.in-Some-Ref.field-0-is))

pub returns-in-Some-Name : goal.returns-in-Some-Name
returns-in-Some-Name c = nothing _ _ (level primary_form c.args.node.now _ c.in-Some-Name.is ∙ name _ _ (rw c.in-Some-Name.is at c.in-Some-Name.field-0-is))

pub returns-in-Some-Slot : goal.returns-in-Some-Slot
returns-in-Some-Slot c = nothing _ _ (level primary_form c.args.node.now _ c.in-Some-Slot.is ∙ slot _ _ (rw c.in-Some-Slot.is at c.in-Some-Slot.field-0-is))

pub returns-in-Some-Expr : goal.returns-in-Some-Expr
returns-in-Some-Expr c =
    on_ok c.push.result (λ h. one _ _ _ _ (level primary_form c.args.node.now _ c.in-Some-Expr.is ∙ parens _ _ (rw c.in-Some-Expr.is at c.in-Some-Expr.field-0-is)) h) c.push.ensures.ok

pub returns-in-Some-EList : goal.returns-in-Some-EList
returns-in-Some-EList c =
    on_ok c.items.result (λ h. at _ _ _ _ (level primary_form c.args.node.now _ c.in-Some-EList.is ∙ list _ _ (rw c.in-Some-EList.is at c.in-Some-EList.field-0-is)) h) (rw c.as_slice.ensures at c.items.ensures)

pub returns-in-Some-RInits : goal.returns-in-Some-RInits
returns-in-Some-RInits c =
    on_ok c.in_inits.result (λ h. at _ _ _ _ (level primary_form c.args.node.now _ c.in-Some-RInits.is ∙ inits _ _ (rw c.in-Some-RInits.is at c.in-Some-RInits.field-0-is)) h) (rw c.as_slice-in-Some-RInits.ensures at c.in_inits.ensures)

pub returns-in-None : goal.returns-in-None
returns-in-None c = nothing _ _ (none primary_form c.args.node.now c.in-None.is)

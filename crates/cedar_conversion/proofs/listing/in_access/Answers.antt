use Rattle.std.proofs.Common.{◌∙◌}
use Rattle.cedar_syntax.specs.trees.Forms.{access_form}
use Rattle.cedar_conversion.proofs.Nested.{none, level, field, call, index}
use Rattle.cedar_conversion.proofs.Walked.{at, nothing, on_ok, one}
use Rattle.cedar_conversion.proofs.listing.in_access.Goals as goal

pub returns-in-Some-Field : goal.returns-in-Some-Field
returns-in-Some-Field c = nothing _ _ (level access_form c.args.node.now _ c.in-Some-Field.is ∙ field _ _ (rw c.in-Some-Field.is at c.in-Some-Field.field-0-is))

pub returns-in-Some-Call : goal.returns-in-Some-Call
returns-in-Some-Call c =
    on_ok c.items.result (λ h. at _ _ _ _ (level access_form c.args.node.now _ c.in-Some-Call.is ∙ call _ _ (rw c.in-Some-Call.is at c.in-Some-Call.field-0-is)) h) (rw c.as_slice.ensures at c.items.ensures)

pub returns-in-Some-Index : goal.returns-in-Some-Index
returns-in-Some-Index c =
    on_ok c.push.result (λ h. one _ _ _ _ (level access_form c.args.node.now _ c.in-Some-Index.is ∙ index _ _ (rw c.in-Some-Index.is at c.in-Some-Index.field-0-is)) h) c.push.ensures.ok

pub returns-in-None : goal.returns-in-None
returns-in-None c = nothing _ _ (none access_form c.args.node.now c.in-None.is)

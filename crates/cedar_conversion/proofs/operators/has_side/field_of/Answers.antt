use Rattle.cedar_conversion.specs.outcome.Seen.{itself}
use Rattle.cedar_conversion.proofs.Fields.{is_call, is_field, is_index}
use Rattle.cedar_conversion.proofs.Outcomes.{gives_at, refuses}
use Rattle.cedar_conversion.proofs.operators.has_side.field_of.Goals as goal

pub returns-in-Some-Field : goal.returns-in-Some-Field
returns-in-Some-Field c = gives_at itself c.field_text.result _ _ (is_field c.args.node.now _ _ c.in-Some-Field.is (rw c.in-Some-Field.is at c.in-Some-Field.field-0-is)) c.field_text.ensures

pub returns-in-Some-Call : goal.returns-in-Some-Call
returns-in-Some-Call c = refuses c.invalid_has_rhs.result _ _ _ (is_call c.args.node.now _ _ c.in-Some-Call.is (rw c.in-Some-Call.is at c.in-Some-Call.field-0-is)) c.invalid_has_rhs.ensures

pub returns-in-Some-Index : goal.returns-in-Some-Index
returns-in-Some-Index c = refuses c.invalid_has_rhs-in-Some-Index.result _ _ _ (is_index c.args.node.now _ _ c.in-Some-Index.is (rw c.in-Some-Index.is at c.in-Some-Index.field-0-is)) c.invalid_has_rhs-in-Some-Index.ensures

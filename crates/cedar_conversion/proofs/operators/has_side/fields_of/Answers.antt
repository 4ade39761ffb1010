use Rattle.std.proofs.Common.{refl, sym, ap, ◌∙◌, ◌+◌}
use Rattle.cedar_conversion.proofs.Fields.{all_left, field_given, field_refused, fields_left, none_left}
use Rattle.cedar_conversion.proofs.Identifiers.{listed_nodes}
use Rattle.cedar_conversion.proofs.Outcomes.{gives_at, passed_on}
use Rattle.cedar_conversion.proofs.operators.has_side.fields_of.Goals as goal

pub loop-access-init : goal.loop-access-init
loop-access-init c = rw c.new-all.ensures.items refl

pub loop-access-preserved : goal.loop-access-preserved
loop-access-preserved c =
    c.loop-access.invariant
    ∙ field_given c.args.accesses.now c.loop-access.access-index c.access-item.result c.loop-access.all.items c.in_ok-field_of.field-0 c.loop-access-test.true c.access-item.is c.in_ok-field_of.ensures
    ∙ ap (fields_left c.args.accesses.now (c.loop-access.access-index + 1)) (sym c.in_ok-push.ensures.items)

pub returns-in_err-field_of : goal.returns-in_err-field_of
returns-in_err-field_of c =
    let refused = field_refused c.in_err-field_of.field-0.0 c.args.accesses.now c.loop-access.access-index c.access-item.result c.loop-access.all.items c.loop-access-test.true c.access-item.is c.in_err-field_of.ensures in
    gives_at listed_nodes c.from_residual.result _ _ (sym (all_left c.args.accesses.now) ∙ c.loop-access.invariant) (passed_on listed_nodes c.from_residual.result c.in_err-field_of.field-0.0 _ c.from_residual.ensures.1 refused)

pub returns : goal.returns
returns c = sym (all_left c.args.accesses.now) ∙ c.loop-access.invariant ∙ none_left c.args.accesses.now c.loop-access.access-index c.loop-access.all.items c.loop-access-test.false

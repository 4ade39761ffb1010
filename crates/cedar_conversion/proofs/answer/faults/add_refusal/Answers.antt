use Rattle.cedar_conversion.specs.machines.Views.{empty_view}
use Rattle.cedar_conversion.proofs.Outcomes.{both_refused, passed_on, refused_next}
use Rattle.cedar_conversion.proofs.answer.faults.add_refusal.Goals as goal

pub returns-in_err-flatten_tuple_2-clause-told : goal.returns-in_err-flatten_tuple_2-clause-told
returns-in_err-flatten_tuple_2-clause-told c o p h k =
    let fault = c.in_err-flatten_tuple_2.field-0.0 in
    passed_on empty_view c.from_residual.result fault _ c.from_residual.ensures.1 (refused_next fault _ _ (both_refused empty_view empty_view c.args.all _ o p fault h k c.in_err-flatten_tuple_2.ensures.faults))

use Rattle.std.proofs.Common.{sym}
use Rattle.cedar_conversion.specs.outcome.Outcome.{detailed_outcome}
use Rattle.cedar_conversion.specs.machines.Views.{empty_view}
use Rattle.cedar_conversion.proofs.FaultLists.{one_behind, one_told}
use Rattle.cedar_conversion.proofs.Outcomes.{both_refused, gives_at, kept_refusal, passed_on, refused_next}
use Rattle.cedar_conversion.proofs.answer.faults.add_fault.Goals as goal

pub returns-in_err-flatten_tuple_2-clause-told : goal.returns-in_err-flatten_tuple_2-clause-told
returns-in_err-flatten_tuple_2-clause-told c faults one h k =
    let fault = c.in_err-flatten_tuple_2.field-0.0 in
    let alone = kept_refusal c.of_errors-fault.result _ (detailed_outcome one.0 one.1 one.2) c.of_errors-fault.ensures (one_told _ c.from_ast.result one c.from_ast.ensures (rw c.in_ok-fault.was at k)) in
    let told = both_refused empty_view empty_view c.args.all _ _ (detailed_outcome one.0 one.1 one.2) fault h alone c.in_err-flatten_tuple_2.ensures.faults in
    gives_at empty_view c.from_residual-in_err-flatten_tuple_2.result _ _ (sym (one_behind faults one)) (passed_on empty_view c.from_residual-in_err-flatten_tuple_2.result fault _ c.from_residual-in_err-flatten_tuple_2.ensures.1 (refused_next fault _ _ told))

use Rattle.cedar_conversion.specs.outcome.Seen.{itself}
use Rattle.cedar_conversion.specs.machines.Views.{empty_view}
use Rattle.cedar_conversion.proofs.Outcomes.{both_gives, both_refused, refused_next, passed_on}
use Rattle.cedar_policy_conversion.proofs.scope.join_elements.Goals as goal

pub returns-in_err-principal : goal.returns-in_err-principal
returns-in_err-principal c p a r x h k l m =
    let one = both_gives itself itself c.args.principal c.args.action c.flatten_tuple_2-first.result p a c.flatten_tuple_2-first.ensures.both c.flatten_tuple_2-first.ensures.faults h k in
    let two = both_gives itself empty_view c.args.resource c.args.extra c.flatten_tuple_2-second.result r x c.flatten_tuple_2-second.ensures.both c.flatten_tuple_2-second.ensures.faults l m in
    let all = both_refused _ _ c.flatten_tuple_2-first.result c.flatten_tuple_2-second.result _ _ c.in_err-principal.field-0.0 one two c.in_err-principal.ensures.faults in
    passed_on itself c.from_residual.result c.in_err-principal.field-0.0 _ c.from_residual.ensures.1 (refused_next c.in_err-principal.field-0.0 _ _ all)

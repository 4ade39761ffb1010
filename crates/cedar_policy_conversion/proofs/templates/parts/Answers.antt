use Rattle.cedar_conversion.specs.outcome.Seen.{itself}
use Rattle.cedar_conversion.proofs.Outcomes.{both_gives}
use Rattle.cedar_policy_conversion.proofs.templates.parts.Goals as goal
use Rattle.cedar_policy_conversion.specs.machines.PolicyViews.{meanings}

pub returns : goal.returns
returns c =
    let one = both_gives itself itself c.effect-maybe_effect.result c.kept_annotations-maybe_annotations.result c.flatten_tuple_2-first.result _ _ c.flatten_tuple_2-first.ensures.both c.flatten_tuple_2-first.ensures.faults c.effect-maybe_effect.ensures c.kept_annotations-maybe_annotations.ensures in
    let two = both_gives itself meanings c.scope_of-maybe_scope.result c.conditions-maybe_conditions.result c.flatten_tuple_2-second.result _ _ c.flatten_tuple_2-second.ensures.both c.flatten_tuple_2-second.ensures.faults (rw c.as_slice.ensures at c.scope_of-maybe_scope.ensures) (rw c.as_slice-2.ensures at c.conditions-maybe_conditions.ensures) in
    both_gives _ _ c.flatten_tuple_2-first.result c.flatten_tuple_2-second.result c.flatten_tuple_2.result _ _ c.flatten_tuple_2.ensures.both c.flatten_tuple_2.ensures.faults one two

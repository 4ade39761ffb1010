use Rattle.cedar_conversion.specs.machines.Views.{empty_view}
use Rattle.cedar_policy_conversion.specs.Conditions.{condition_word}
use Rattle.cedar_policy_conversion.proofs.ConditionValues.{slots_there}
use Rattle.cedar_conversion.proofs.Outcomes.{wanting}
use Rattle.cedar_policy_conversion.proofs.conditions.refuse_slots_of.Goals as goal

pub returns-in_err-slots : goal.returns-in_err-slots
returns-in_err-slots c = wanting empty_view c.from_residual.result _ c.from_residual.ensures.1

pub returns : goal.returns
returns c = slots_there c.args.site.loc.now (condition_word c.args.when) c.condition_word-word.result.now c.args.expr.now c.as_slice.result.now c.refuse_slots.result c.condition_word-word.ensures (rw c.as_slice.ensures.value c.in_ok-slots.ensures) c.refuse_slots.ensures

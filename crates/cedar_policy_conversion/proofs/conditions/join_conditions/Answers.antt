use Rattle.std.proofs.Common.{◌≡◌, length, arith}
use Rattle.cedar_policy_conversion.proofs.ConditionValues.{joined_aside}
use Rattle.cedar_policy_conversion.proofs.FoldedConditions.{meant_first, meant_more, meant_whole}
use Rattle.cedar_policy_conversion.proofs.conditions.join_conditions.Goals as goal

pub loop-condition-init : goal.loop-condition-init
loop-condition-init c = meant_first c.args.conditions.items c.pop.new.self.items c.pop.result c.in-Some.all c.pop.ensures.items c.in-Some.is

pub loop-condition-preserved : goal.loop-condition-preserved
loop-condition-preserved c =
    meant_more c.loop-condition.earlier.items c.pop-in-loop-condition.new.self.items c.pop-in-loop-condition.result c.in-Some-pop.condition c.loop-condition.all c.in_ok-all.all _
    c.pop-in-loop-condition.ensures.items c.in-Some-pop.is (joined_aside c.in-Some-pop.condition c.loop-condition.all c.in_ok-all.all c.in_ok-all.ensures.value) c.loop-condition.invariant

pub returns : goal.returns
returns c =
    let none : length c.loop-condition.earlier.items ≡ 0 = omega (arith, c.in_default-pop.ensures.cases.0, c.loop-condition.earlier.ok.0) in
    meant_whole c.loop-condition.earlier.items c.loop-condition.all _ none c.loop-condition.invariant

use Rattle.cedar_policy_parser.proofs.meaning.Formatting.{line_next}
use Rattle.cedar_conversion.proofs.Loops.{take_whole}
use Rattle.cedar_policy_parser.proofs.formatter.lines.Goals as goal

pub loop-policy-preserved : goal.loop-policy-preserved
loop-policy-preserved c =
    line_next c.args.policies.now c.loop-policy.policy-index c.policy-item.result _ _ c.loop-policy-test.true c.policy-item.is c.loop-policy.invariant c.in_ok-add_line.ensures

pub returns : goal.returns
returns c = rw (take_whole c.args.policies.now c.loop-policy.policy-index c.loop-policy-test.false) at c.loop-policy.invariant

use Rattle.std.proofs.Common.{rules}
use Rattle.cedar_tool.proofs.Annotating.{next_done, all_done}
use Rattle.cedar_tool.proofs.lines.annotations.Goals as goal

pub loop-key-preserved : goal.loop-key-preserved
loop-key-preserved c =
    next_done c.args.policy.now.annotations _ _ (c.in-Some.key.now, c.in-Some.annotation.now) _ _ c.in_ok-key.key c.in_ok-text.text c.loop-key.invariant c.in-Some.ensures.steps c.in_ok-insert.ensures.entries (search rules) (search rules)

pub returns : goal.returns
returns c = all_done c.args.policy.now.annotations _ c.loop-key.members c.loop-key.invariant c.in-None.ensures.steps.0

use Rattle.std.proofs.Common.{rules}
use Rattle.cedar_answers.proofs.Annotating.{next_done, all_done}
use Rattle.cedar_answers.proofs.annotations.made_annotations.Goals as goal

pub loop-key-preserved : goal.loop-key-preserved
loop-key-preserved c =
    next_done c.args.annotations.now _ _ (c.in-Some.key.now, c.in-Some.annotation.now) c.loop-key.all.items c.push.new.self.items (record { key = c.in_ok-key.key; value = c.in_ok-value.value }) c.loop-key.invariant
    c.in-Some.ensures.steps (search rules) (search rules)

pub returns : goal.returns
returns c = all_done c.args.annotations.now _ c.loop-key.all.items c.loop-key.invariant c.in-None.ensures.steps.0

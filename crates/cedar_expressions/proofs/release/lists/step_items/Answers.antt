use Rattle.std.proofs.Common.{ap, ◌∙◌}
use Rattle.cedar_expressions.specs.Forks.{forks, items_forks, waiting_forks, fork_forks}
use Rattle.cedar_expressions.proofs.ForksAt.{last_item, some_fork, taken_out, none_left}
use Rattle.cedar_expressions.proofs.release.lists.step_items.Goals as goal

pub returns-in-Some-fork : goal.returns-in-Some-fork
returns-in-Some-fork c =
    let split = ap items_forks c.in-Some.ensures.items ∙ last_item c.pop.new.self.items c.in-Some.item in
    let t = taken_out (items_forks c.args.items.items) (items_forks c.loop-item.items.items) (items_forks c.pop.new.self.items) (forks c.in-Some.item) (fork_forks c.in-Some-fork.part) (waiting_forks c.loop-item.up) (waiting_forks c.keep_items.new.up) (waiting_forks c.args.up.now) split c.loop-item.invariant.0 c.in-Some-fork.ensures c.keep_items.ensures (ap waiting_forks c.loop-item.invariant.1) (some_fork c.in-Some-fork.part) in
    (t.0, t.1, λ _. t.2)

pub returns : goal.returns
returns c =
    let t = none_left (items_forks c.args.items.items) (waiting_forks c.loop-item.up) (waiting_forks c.args.up.now) (ap waiting_forks c.loop-item.invariant.1) in
    (t.0, t.1, λ _. t.2)

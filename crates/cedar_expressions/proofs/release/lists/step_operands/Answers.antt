use Rattle.std.proofs.Common.{◌≤◌, ap, ◌∙◌, subst}
use Rattle.cedar_expressions.specs.Forks.{forks, items_forks, waiting_forks, fork_forks}
use Rattle.cedar_expressions.proofs.ForksAt.{last_item, some_fork, taken_behind, first_left}
use Rattle.cedar_expressions.proofs.release.lists.step_operands.Goals as goal

pub returns-in-Some-fork : goal.returns-in-Some-fork
returns-in-Some-fork c =
    let split = ap items_forks c.in-Some.ensures.items ∙ last_item c.pop.new.self.items c.in-Some.item in
    let t = taken_behind (forks c.args.first.value) (items_forks c.args.rest.items) (items_forks c.loop-item.rest.items) (items_forks c.pop.new.self.items) (forks c.in-Some.item) (fork_forks c.in-Some-fork.part) (waiting_forks c.loop-item.up) (waiting_forks c.keep_operands.new.up) (waiting_forks c.args.up.now) split c.loop-item.invariant.0 c.in-Some-fork.ensures c.keep_operands.ensures (ap waiting_forks c.loop-item.invariant.1) (some_fork c.in-Some-fork.part) in
    (t.0, t.1, λ _. t.2)

pub returns : goal.returns
returns c =
    let t = first_left (forks c.args.first.value) (items_forks c.args.rest.items) (waiting_forks c.fork-2.result) (waiting_forks c.loop-item.up) (waiting_forks c.args.up.now) (subst (λ e. waiting_forks c.fork-2.result ≤ forks e) c.into_inner.ensures c.fork-2.ensures) (ap waiting_forks c.loop-item.invariant.1) in
    (t.0, t.1, λ _. t.2)

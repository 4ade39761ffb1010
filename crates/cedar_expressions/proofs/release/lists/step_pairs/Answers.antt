use Rattle.std.proofs.Common.{ap, ◌∙◌}
use Rattle.cedar_expressions.specs.Forks.{forks, pairs_forks, waiting_forks, fork_forks}
use Rattle.cedar_expressions.proofs.ForksAt.{last_pair, some_fork, taken_out, none_left}
use Rattle.cedar_expressions.proofs.release.lists.step_pairs.Goals as goal

pub returns-in-Some-fork : goal.returns-in-Some-fork
returns-in-Some-fork c =
    let split = ap pairs_forks c.in-Some.ensures.items ∙ last_pair c.pop.new.self.items (c.in-Some.key, c.in-Some.value) in
    let t = taken_out (pairs_forks c.args.pairs.items) (pairs_forks c.loop-key.pairs.items) (pairs_forks c.pop.new.self.items) (forks c.in-Some.value) (fork_forks c.in-Some-fork.part) (waiting_forks c.loop-key.up) (waiting_forks c.keep_pairs.new.up) (waiting_forks c.args.up.now) split c.loop-key.invariant.0 c.in-Some-fork.ensures c.keep_pairs.ensures (ap waiting_forks c.loop-key.invariant.1) (some_fork c.in-Some-fork.part) in
    (t.0, t.1, λ _. t.2)

pub returns : goal.returns
returns c =
    let t = none_left (pairs_forks c.args.pairs.items) (waiting_forks c.loop-key.up) (waiting_forks c.args.up.now) (ap waiting_forks c.loop-key.invariant.1) in
    (t.0, t.1, λ _. t.2)

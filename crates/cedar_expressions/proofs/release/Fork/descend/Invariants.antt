use Rattle.std.proofs.Common.{◌≡◌, ◌+◌, ◌<◌, ◌≤◌, None}
use Rattle.cedar_expressions.specs.Forks.{fork_forks, waiting_forks}
use Rattle.cedar_expressions.proofs.release.Fork.descend.Given as goal

abbrev pub invariant-loop-part : goal.invariant-loop-part
invariant-loop-part l =
    (waiting_forks l.part + waiting_forks l.up ≤ fork_forks l.fn.self)
    × (l.part ≡ None → waiting_forks l.up < fork_forks l.fn.self)

abbrev pub decreases-loop-part : goal.decreases-loop-part
decreases-loop-part l = waiting_forks l.part

use Rattle.std.proofs.Common.{◌≡◌, map, take}
use Rattle.cedar_answers.specs.Made.{policy_made}
use Rattle.cedar_answers.specs.Told.{told_from}
use Rattle.cedar_answers.proofs.policies.made_policies.Given as goal

-- the policies of the nodes so far are made, and they are counted
abbrev pub invariant-loop-node : goal.invariant-loop-node
invariant-loop-node l =
    (l.count ≡ l.node-index) × (map policy_made l.all.items ≡ told_from l.lines.text.now l.set 0 (take l.node-index l.nodes))

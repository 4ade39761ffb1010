use Rattle.std.proofs.Common.{◌≡◌, ◌≤◌, length, map, vec_len, vec_capacity}
use Rattle.cedar_answers.specs.Made.{policy_made}
use Rattle.cedar_answers.specs.Told.{policy_read}
use Rattle.cedar_answers.proofs.policies.handed_policies.Given as goal

-- those so far are handed out, and there is room for all
abbrev pub invariant-loop-policy : goal.invariant-loop-policy
invariant-loop-policy l =
    (map policy_read l.all.items ≡ map policy_made l.yielded)
    × (vec_len l.all ≡ length l.yielded)
    × (length l.fn.made.items ≤ vec_capacity l.all)

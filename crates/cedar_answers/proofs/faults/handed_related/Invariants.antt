use Rattle.std.proofs.Common.{◌≡◌, ◌≤◌, length, map, vec_len, vec_capacity}
use Rattle.cedar_answers.specs.Faults.{related_found, related_read}
use Rattle.cedar_answers.proofs.faults.handed_related.Given as goal

-- those so far are handed out, and there is room for all
abbrev pub invariant-loop-related : goal.invariant-loop-related
invariant-loop-related l =
    (map related_read l.all.items ≡ map related_found l.yielded)
    × (vec_len l.all ≡ length l.yielded)
    × (length l.fn.made.items ≤ vec_capacity l.all)

use Rattle.std.proofs.Common.{◌≡◌, ◌≤◌, length, vec_len, vec_capacity}
use Rattle.cedar_answers.specs.Made.{entities_made}
use Rattle.cedar_answers.specs.Told.{entities_read}
use Rattle.cedar_answers.proofs.entities.handed_entities.Given as goal

-- those so far are handed out, and there is room for all
abbrev pub invariant-loop-entity : goal.invariant-loop-entity
invariant-loop-entity l =
    (entities_read l.all.items ≡ entities_made l.yielded)
    × (vec_len l.all ≡ length l.yielded)
    × (length l.fn.made.items ≤ vec_capacity l.all)

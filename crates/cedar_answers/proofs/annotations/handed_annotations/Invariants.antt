use Rattle.std.proofs.Common.{◌≡◌, ◌≤◌, length, vec_len, vec_capacity}
use Rattle.cedar_answers.specs.Made.{annotations_made}
use Rattle.cedar_answers.specs.Told.{annotations_read}
use Rattle.cedar_answers.proofs.annotations.handed_annotations.Given as goal

-- those so far are handed out, and there is room for all
abbrev pub invariant-loop-annotation : goal.invariant-loop-annotation
invariant-loop-annotation l =
    (annotations_read l.all.items ≡ annotations_made l.yielded)
    × (vec_len l.all ≡ length l.yielded)
    × (length l.fn.made.items ≤ vec_capacity l.all)

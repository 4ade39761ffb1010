use Rattle.std.proofs.Common.{◌≡◌, ◌≤◌, length, map, vec_len, vec_capacity}
use Rattle.std.specs.List.{AllZip}
use Rattle.cedar_answers.specs.Faults.{IsFaultRead}
use Rattle.cedar_answers.specs.Made.{finding_of}
use Rattle.cedar_answers.proofs.faults.handed_faults.Given as goal

-- those so far are handed out, and there is room for all
abbrev pub invariant-loop-fault : goal.invariant-loop-fault
invariant-loop-fault l =
    AllZip IsFaultRead (map finding_of l.yielded) l.all.items
    × (vec_len l.all ≡ length l.yielded)
    × (length l.fn.made.items ≤ vec_capacity l.all)

use Rattle.std.proofs.Common.{◌≡◌, drop, length}
use Rattle.cedar_report.specs.Signs.{all_meet}
use Rattle.cedar_report.proofs.near.all_meet.Given as goal

-- the words so far are what is asked of them
abbrev pub invariant-loop-sign : goal.invariant-loop-sign
invariant-loop-sign l =
    all_meet (drop (length l.yielded) l.signs) (drop (length l.yielded) l.words) ≡ all_meet l.signs l.words

use Rattle.std.proofs.Common.{◌≡◌, map}
use Rattle.cedar_answers.specs.Made.{finding_of}
use Rattle.cedar_answers.proofs.faults.made_faults.Given as goal

-- those so far are made
abbrev pub invariant-loop-finding : goal.invariant-loop-finding
invariant-loop-finding l = map finding_of l.all.items ≡ l.yielded

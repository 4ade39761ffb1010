use Rattle.std.proofs.Common.{◌≡◌}
use Rattle.cedar_report.specs.Spots.{IsStation}
use Rattle.cedar_report.proofs.lines.walk.Given as goal

abbrev pub invariant-loop-offset : goal.invariant-loop-offset
invariant-loop-offset l = IsStation l.bytes l.at × (l.at.offset ≡ l.offset)

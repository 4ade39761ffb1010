use Rattle.std.proofs.Common.{◌≡◌}
use Rattle.std.specs.List.{All}
use Rattle.cedar_report.specs.Spots.{IsStation}
use Rattle.cedar_report.proofs.lines.stations.Given as goal

-- the byte with its spot is the next one, and the stations so far are stations
abbrev pub invariant-loop-byte : goal.invariant-loop-byte
invariant-loop-byte l =
    IsStation l.bytes l.at × (l.at.offset ≡ l.byte-index) × All (IsStation l.bytes) l.stations.items

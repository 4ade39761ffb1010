use Rattle.std.proofs.Common.{take, flat_map}
use Rattle.std.specs.Fmt.{WritesInCalls}
use Rattle.cedar_report.specs.PlainLines.{plain_line}
use Rattle.cedar_report.proofs.report.Report.write_plain.Given as goal

-- the lines so far are written
abbrev pub invariant-loop-finding : goal.invariant-loop-finding
invariant-loop-finding g l =
    WritesInCalls g.W.Write.write_str_gives l.initial.out (flat_map (plain_line l.name) (take l.finding-index l.finding-items)) l.out

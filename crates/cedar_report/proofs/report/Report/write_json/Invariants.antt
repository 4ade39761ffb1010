use Rattle.std.proofs.Common.{take, flat_map}
use Rattle.std.specs.Fmt.{WritesInCalls}
use Rattle.cedar_report.specs.JsonLines.{json_line}
use Rattle.cedar_report.proofs.report.Report.write_json.Given as goal

-- the lines so far are written
abbrev pub invariant-loop-finding : goal.invariant-loop-finding
invariant-loop-finding g l =
    WritesInCalls g.W.Write.write_str_gives l.initial.out (flat_map (json_line l.self.name.now) (take l.finding-index l.finding-items)) l.out

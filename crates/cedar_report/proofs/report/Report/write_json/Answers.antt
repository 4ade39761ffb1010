use Rattle.std.proofs.Common.{List, ℕ, ◌++◌, codes, subst}
use Rattle.std.specs.Fmt.{WritesInCalls}
use Rattle.cedar_report.specs.JsonLines.{json_line}
use Rattle.cedar_report.proofs.Writing.{writes_more}
use Rattle.cedar_report.proofs.report.Report.write_json.Goals as goal

pub loop-finding-preserved : goal.loop-finding-preserved
loop-finding-preserved g c =
    let P : List ℕ → Type 0 = λ bytes. WritesInCalls g.W.Write.write_str_gives c.loop-finding.out (bytes ++ codes "\n") c.writeln.new.self in
    writes_more g.W.Write.write_str_gives (json_line c.args.self.now.name.now) c.findings-finding-items.result.now c.loop-finding.finding-index c.finding-item.result _ _ _ c.loop-finding-test.true c.finding-item.is c.loop-finding.invariant (subst P c.in_ok-line.ensures.text c.in_ok-writeln.ensures.writes)

use Rattle.cedar_report.specs.PlainLines.{plain_line}
use Rattle.cedar_report.proofs.Writing.{writes_more}
use Rattle.cedar_report.proofs.report.Report.write_plain.Goals as goal

pub loop-finding-preserved : goal.loop-finding-preserved
loop-finding-preserved g c =
    writes_more g.W.Write.write_str_gives (plain_line c.args.self.now.name.now) c.findings-finding-items.result.now c.loop-finding.finding-index c.finding-item.result _ _ _ c.loop-finding-test.true c.finding-item.is c.loop-finding.invariant c.in_ok-write.ensures.writes

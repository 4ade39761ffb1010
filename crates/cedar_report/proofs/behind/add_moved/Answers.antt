use Rattle.std.proofs.Common.{rules}
use Rattle.cedar_report.proofs.Pieces.{moved_more}
use Rattle.cedar_report.proofs.behind.add_moved.Goals as goal

pub loop-finding-preserved : goal.loop-finding-preserved
loop-finding-preserved c =
    moved_more c.args.lines.now.text.now c.args.start c.args.findings.now.items c.loop-finding.findings.items c.push.new.self.items c.loop-finding.yielded c.in-Some.finding c.in_ok-moved.field-0 c.loop-finding.invariant c.in_ok-moved.ensures (search rules)

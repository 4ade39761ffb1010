use Rattle.cedar_report.specs.Findings.{AreRelatedSeen}
use Rattle.cedar_report.proofs.behind.moved_related.Given as goal

-- the places so far are seen
abbrev pub invariant-loop-other : goal.invariant-loop-other
invariant-loop-other l = AreRelatedSeen l.lines.text.now l.moved.items

use Rattle.std.proofs.Common.{◌≡◌, ◌++◌, List}
use Rattle.std.specs.List.{AllZip}
use Rattle.cedar_report.specs.declared.finding.Finding.{Finding}
use Rattle.cedar_report.specs.Behind.{IsMoved}
use Rattle.cedar_report.proofs.behind.add_moved.Given as goal

-- the findings so far are added where they are in the text
abbrev pub invariant-loop-finding : goal.invariant-loop-finding
invariant-loop-finding l =
    (rest : List Finding) × (l.findings.items ≡ l.initial.findings.items ++ rest) × AllZip (IsMoved l.lines.text.now l.start) l.yielded rest

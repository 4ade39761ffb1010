use Rattle.std.proofs.Common.{length, take}
use Rattle.cedar_syntax.specs.faults.ParseErrors.{faults_of}
use Rattle.cedar_report.specs.Findings.{AreTold}
use Rattle.cedar_report.proofs.report.findings.Given as goal

-- the faults so far are told
abbrev pub invariant-loop-fault : goal.invariant-loop-fault
invariant-loop-fault l =
    AreTold l.sources.lines.text.now (take (length l.yielded) (faults_of l.faults)) l.findings.items

use Rattle.std.proofs.Common.{subst}
use Rattle.std.specs.List.{AllZip}
use Rattle.cedar_answers.specs.Faults.{IsFaultRead}
use Rattle.cedar_answers.proofs.faults.told_faults.Goals as goal

pub returns : goal.returns
returns c =
    (c.in_ok-report.report.findings.items, c.in_ok-report.ensures.told, subst (λ fs. AllZip IsFaultRead fs c.handed_faults.result.now) c.in_ok-made.ensures c.handed_faults.ensures)

use Rattle.std.proofs.Common.{List, ℕ, rules, subst}
use Rattle.cedar_tool.specs.Told.{IsToldOn}
use Rattle.cedar_tool.proofs.format.compare.Goals as goal

pub returns-clause-compared : goal.returns-clause-compared
returns-clause-compared g c =
    let findings = c.in_ok-report.report.findings.items in
    let P : List ℕ → Type 0 = λ n. IsToldOn g.O.Write.contents c.args.format n findings c.args.console.now c.tell.new.console in
    (search rules, (findings, c.in_ok-report.ensures.tells, subst P c.in_ok-report.ensures.name c.in_ok-tell.ensures.told))

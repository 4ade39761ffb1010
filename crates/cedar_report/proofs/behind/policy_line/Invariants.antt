use Rattle.cedar_report.proofs.Margins.{Passed}
use Rattle.cedar_report.proofs.behind.policy_line.Given as goal

-- no line so far begins a policy
abbrev pub invariant-loop-at : goal.invariant-loop-at
invariant-loop-at l = Passed l.text l.from l.at l.is_margin

use Rattle.cedar_report.proofs.Reading.{HasCome}
use Rattle.cedar_report.proofs.behind.first_bad_place.Given as goal

-- the tokens so far are laid out
abbrev pub invariant-loop-token : goal.invariant-loop-token
invariant-loop-token l = HasCome l.text l.token-iterator

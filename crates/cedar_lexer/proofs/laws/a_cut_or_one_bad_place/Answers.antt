-- The law is a lemma.
use Rattle.cedar_lexer.proofs.Cuts.{one_end}
use Rattle.cedar_lexer.proofs.Runs.{cuts_or_stops, not_both}
use Rattle.cedar_lexer.proofs.laws.a_cut_or_one_bad_place.Goals as goal

pub returns-clause-cuts_or_stops : goal.returns-clause-cuts_or_stops
returns-clause-cuts_or_stops c = cuts_or_stops

pub returns-clause-not_both : goal.returns-clause-not_both
returns-clause-not_both c = not_both

pub returns-clause-one_place : goal.returns-clause-one_place
returns-clause-one_place c = λ source ts us p q s z. one_end s.0 s.2 z.0 z.2

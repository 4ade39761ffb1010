-- Two cuts end where nothing starts.
use Rattle.cedar_lexer.proofs.Cuts.{one_end, nothing_at_end}
use Rattle.cedar_lexer.proofs.laws.at_most_one_cut.Goals as goal

pub returns : goal.returns
returns c = λ source ts us p q. (one_end p (nothing_at_end source) q (nothing_at_end source)).0

use Rattle.cedar_layout.proofs.Operands.{keeps_operands}
use Rattle.cedar_layout.proofs.Wholes.{keeps_whole}
use Rattle.cedar_layout.proofs.laws.what_fits_stays_whole.Goals as goal

pub returns-clause-brackets : goal.returns-clause-brackets
returns-clause-brackets c = keeps_whole

pub returns-clause-operands : goal.returns-clause-operands
returns-clause-operands c = keeps_operands

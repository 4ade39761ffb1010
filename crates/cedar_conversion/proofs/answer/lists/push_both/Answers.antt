use Rattle.cedar_conversion.proofs.Outcomes.{grown_refused}
use Rattle.cedar_conversion.proofs.answer.lists.push_both.Goals as goal

pub returns-in_err-all : goal.returns-in_err-all
returns-in_err-all g c = grown_refused c.args.all c.args.next c.from_residual.result c.in_err-all.field-0.0 c.from_residual.ensures.1 c.in_err-all.ensures.faults

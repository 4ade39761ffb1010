use Rattle.cedar_expressions.proofs.EqualExprs.{equal_exprs}
use Rattle.cedar_expressions.proofs.laws.equal_expressions.Goals as goal

pub returns : goal.returns
returns c = equal_exprs

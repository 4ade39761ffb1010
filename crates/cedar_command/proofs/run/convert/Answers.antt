use Rattle.cedar_command.proofs.Verdicts.{converted, told}
use Rattle.cedar_command.proofs.run.convert.Goals as goal

pub returns-clause-value : goal.returns-clause-value
returns-clause-value c = converted _ c.to_expr.result c.and.result _ _ _ c.to_expr.ensures c.and.ensures

pub returns-clause-refused : goal.returns-clause-refused
returns-clause-refused c = told _ c.to_expr.result c.and.result _ _ _ c.to_expr.ensures c.and.ensures

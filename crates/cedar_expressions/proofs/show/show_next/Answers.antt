use Rattle.cedar_expressions.proofs.ShownAt.{opened}
use Rattle.cedar_expressions.proofs.show.show_next.Goals as goal

pub returns-in_ok-open-in-Expr-clause-text : goal.returns-in_ok-open-in-Expr-clause-text
returns-in_ok-open-in-Expr-clause-text g c = opened c.args.piece c.in-Expr.expr _ _ c.in-Expr.is c.in_ok-open-in-Expr.ensures.text

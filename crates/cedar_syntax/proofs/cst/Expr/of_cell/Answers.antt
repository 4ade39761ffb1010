use Rattle.std.proofs.Common.{ap, ◌∙◌}
use Rattle.cedar_syntax.specs.trees.Weight.{linked_weight}
use Rattle.cedar_syntax.proofs.Weights.{expr_out, rolled}
use Rattle.cedar_syntax.proofs.cst.Expr.of_cell.Goals as goal

pub returns : goal.returns
returns c = expr_out _ ∙ rolled c.from-expr.result ∙ ap linked_weight c.from-expr.ensures

use Rattle.std.proofs.Common.{ap, ◌∙◌}
use Rattle.cedar_syntax.specs.trees.Weight.{data_weight}
use Rattle.cedar_syntax.proofs.Weights.{data_if, data_or, one, three}
use Rattle.cedar_syntax.proofs.dismantle.ExprDataDismantle.dismantle.Goals as goal

pub returns-in-Or : goal.returns-in-Or
returns-in-Or c = one _ _ c.dismantle.ensures (ap data_weight c.in-Or.is ∙ data_or _)

pub returns-in-If : goal.returns-in-If
returns-in-If c = three _ _ _ _ c.dismantle-pending.ensures c.dismantle-pending-in-If.ensures c.dismantle-in-If.ensures (ap data_weight c.in-If.is ∙ data_if _ _ _)

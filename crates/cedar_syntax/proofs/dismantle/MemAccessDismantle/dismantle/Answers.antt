use Rattle.std.proofs.Common.{ap, ◌∙◌}
use Rattle.cedar_syntax.specs.trees.Weight.{access_weight}
use Rattle.cedar_syntax.proofs.Weights.{access_call, access_field, access_index, none, one}
use Rattle.cedar_syntax.proofs.dismantle.MemAccessDismantle.dismantle.Goals as goal

pub returns-in-Field : goal.returns-in-Field
returns-in-Field c = none (ap access_weight c.in-Field.is ∙ access_field _)

pub returns-in-Call : goal.returns-in-Call
returns-in-Call c = one _ _ c.dismantle.ensures (ap access_weight c.in-Call.is ∙ access_call _)

pub returns : goal.returns
returns c = one _ _ c.dismantle-in-Index.ensures (ap access_weight c.in-Index.is ∙ access_index _)

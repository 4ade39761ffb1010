use Rattle.std.proofs.Common.{ap, ◌∙◌}
use Rattle.cedar_syntax.specs.trees.Weight.{relation_weight}
use Rattle.cedar_syntax.proofs.Weights.{relation_common, relation_has, relation_like, relation_typed, three, two}
use Rattle.cedar_syntax.proofs.dismantle.RelationDismantle.dismantle.Goals as goal

pub returns-in-Common : goal.returns-in-Common
returns-in-Common c = two _ _ _ c.dismantle-pending.ensures c.dismantle.ensures (ap relation_weight c.in-Common.is ∙ relation_common _ _)

pub returns-in-Has : goal.returns-in-Has
returns-in-Has c = two _ _ _ c.dismantle-pending-in-Has.ensures c.dismantle-in-Has.ensures (ap relation_weight c.in-Has.is ∙ relation_has _ _)

pub returns-in-Like : goal.returns-in-Like
returns-in-Like c = two _ _ _ c.dismantle-pending-in-Like.ensures c.dismantle-in-Like.ensures (ap relation_weight c.in-Like.is ∙ relation_like _ _)

pub returns-in-IsIn : goal.returns-in-IsIn
returns-in-IsIn c = three _ _ _ _ c.dismantle-pending-in-IsIn.ensures c.dismantle-pending-in-IsIn-2.ensures c.dismantle-in-IsIn.ensures (ap relation_weight c.in-IsIn.is ∙ relation_typed _ _ _)

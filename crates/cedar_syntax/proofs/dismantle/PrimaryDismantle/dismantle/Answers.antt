use Rattle.std.proofs.Common.{ap, ◌∙◌}
use Rattle.cedar_syntax.specs.trees.Weight.{primary_weight}
use Rattle.cedar_syntax.proofs.Weights.{none, one, primary_expr, primary_inits, primary_list, primary_literal, primary_name, primary_ref, primary_slot}
use Rattle.cedar_syntax.proofs.dismantle.PrimaryDismantle.dismantle.Goals as goal

pub returns-in-Literal : goal.returns-in-Literal
returns-in-Literal c = none (ap primary_weight c.in-Literal.is ∙ primary_literal _)

pub returns-in-Ref : goal.returns-in-Ref
returns-in-Ref c = none (ap primary_weight c.in-Ref.is ∙ primary_ref _)

pub returns-in-Name : goal.returns-in-Name
returns-in-Name c = none (ap primary_weight c.in-Name.is ∙ primary_name _)

pub returns-in-Slot : goal.returns-in-Slot
returns-in-Slot c = none (ap primary_weight c.in-Slot.is ∙ primary_slot _)

pub returns-in-Expr : goal.returns-in-Expr
returns-in-Expr c = one _ _ c.dismantle.ensures (ap primary_weight c.in-Expr.is ∙ primary_expr _)

pub returns-in-EList : goal.returns-in-EList
returns-in-EList c = one _ _ c.dismantle-in-EList.ensures (ap primary_weight c.in-EList.is ∙ primary_list _)

pub returns : goal.returns
returns c = one _ _ c.dismantle-in-RInits.ensures (ap primary_weight c.in-RInits.is ∙ primary_inits _)

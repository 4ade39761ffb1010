use Rattle.std.proofs.Common.{Some, ap, ◌∙◌}
use Rattle.cedar_syntax.specs.trees.Forms.{primary_form}
use Rattle.cedar_conversion.proofs.Outcomes.{refuses}
use Rattle.cedar_policy_conversion.proofs.LonePrimaries as lone
use Rattle.cedar_policy_conversion.proofs.single_primary.bare.Goals as goal

pub returns-in-Some-Literal : goal.returns-in-Some-Literal
returns-in-Some-Literal c h = lone.literal_primary c.args.node.now _ _ c.in-Some-Literal.is (rw c.in-Some-Literal.is at c.in-Some-Literal.field-0-is)

pub returns-in-Some-Ref : goal.returns-in-Some-Ref
returns-in-Some-Ref c h = lone.ref_primary c.args.node.now _ _ c.in-Some-Ref.is (rw c.in-Some-Ref.is at c.in-Some-Ref.field-0-is)

pub returns-in-Some-Name : goal.returns-in-Some-Name
returns-in-Some-Name c h = lone.name_primary c.args.node.now _ _ c.in-Some-Name.is (rw c.in-Some-Name.is at c.in-Some-Name.field-0-is)

pub returns-in-Some-Slot : goal.returns-in-Some-Slot
returns-in-Some-Slot c h = lone.slot_primary c.args.node.now _ _ c.in-Some-Slot.is (rw c.in-Some-Slot.is at c.in-Some-Slot.field-0-is)

pub returns-in-Some-EList : goal.returns-in-Some-EList
returns-in-Some-EList c h = lone.list_primary c.args.node.now _ _ c.in-Some-EList.is (rw c.in-Some-EList.is at c.in-Some-EList.field-0-is)

pub returns-in-Some-RInits : goal.returns-in-Some-RInits
returns-in-Some-RInits c h = lone.inits_primary c.args.node.now _ _ c.in-Some-RInits.is (rw c.in-Some-RInits.is at c.in-Some-RInits.field-0-is)

pub returns-in-Some-Expr : goal.returns-in-Some-Expr
returns-in-Some-Expr c h = absurd (h _ (c.in-Some-Expr.is ∙ ap Some (rw c.in-Some-Expr.is at c.in-Some-Expr.field-0-is)))

pub returns-in-None : goal.returns-in-None
returns-in-None c h = refuses c.empty_node-in-None.result _ _ _ (lone.no_lone primary_form c.args.node.now c.in-None.is) c.empty_node-in-None.ensures

use Rattle.std.proofs.Common.{sym, ap, ◌∙◌}
use Rattle.cedar_syntax.specs.trees.Forms.{primary_form}
use Rattle.cedar_syntax.proofs.FormLevels.{primary_literal, primary_ref, primary_name, primary_slot, primary_expr, primary_list, primary_inits}
use Rattle.cedar_conversion.proofs.Bare.{alone_at}
use Rattle.cedar_conversion.proofs.leaves.literals.literal_alone.Goals as goal

pub returns-in-Some-Ref : goal.returns-in-Some-Ref
returns-in-Some-Ref c = sym (alone_at c.args.node.now _ _ c.in-Some-Ref.is (ap primary_form (rw c.in-Some-Ref.is at c.in-Some-Ref.field-0-is) ∙ primary_ref _))

pub returns-in-Some-Name : goal.returns-in-Some-Name
returns-in-Some-Name c = sym (alone_at c.args.node.now _ _ c.in-Some-Name.is (ap primary_form (rw c.in-Some-Name.is at c.in-Some-Name.field-0-is) ∙ primary_name _))

pub returns-in-Some-Slot : goal.returns-in-Some-Slot
returns-in-Some-Slot c = sym (alone_at c.args.node.now _ _ c.in-Some-Slot.is (ap primary_form (rw c.in-Some-Slot.is at c.in-Some-Slot.field-0-is) ∙ primary_slot _))

pub returns-in-Some-Expr : goal.returns-in-Some-Expr
returns-in-Some-Expr c = sym (alone_at c.args.node.now _ _ c.in-Some-Expr.is (ap primary_form (rw c.in-Some-Expr.is at c.in-Some-Expr.field-0-is) ∙ primary_expr _))

pub returns-in-Some-EList : goal.returns-in-Some-EList
returns-in-Some-EList c = sym (alone_at c.args.node.now _ _ c.in-Some-EList.is (ap primary_form (rw c.in-Some-EList.is at c.in-Some-EList.field-0-is) ∙ primary_list _))

pub returns-in-Some-RInits : goal.returns-in-Some-RInits
returns-in-Some-RInits c = sym (alone_at c.args.node.now _ _ c.in-Some-RInits.is (ap primary_form (rw c.in-Some-RInits.is at c.in-Some-RInits.field-0-is) ∙ primary_inits _))

pub returns-in-Some-Literal : goal.returns-in-Some-Literal
returns-in-Some-Literal c = c.as_ref.ensures.value ∙ sym (alone_at c.args.node.now _ _ c.in-Some-Literal.is (ap primary_form (rw c.in-Some-Literal.is at c.in-Some-Literal.field-0-is) ∙ primary_literal _))

use Rattle.std.proofs.Common.{ap, ◌∙◌}
use Rattle.cedar_syntax.specs.trees.Forms.{primary_form}
use Rattle.cedar_syntax.proofs.FormLevels.{primary_literal, primary_ref, primary_name, primary_slot, primary_expr, primary_list, primary_inits}
use Rattle.cedar_conversion.specs.outcome.Seen.{itself}
use Rattle.cedar_conversion.proofs.Outcomes.{gives_at, refuses}
use Rattle.cedar_conversion.proofs.StringLiterals.{string_at, no_string}
use Rattle.cedar_conversion.proofs.answer.wanted.string_literal.Goals as goal

pub returns-in-Some-Literal : goal.returns-in-Some-Literal
returns-in-Some-Literal g c = gives_at itself c.string_from.result _ _ (string_at c.args.node.now _ _ c.in-Some-Literal.is (ap primary_form (rw c.in-Some-Literal.is at c.in-Some-Literal.field-0-is) ∙ primary_literal _)) (c.string_from.ensures _ c.literal.ensures)

pub returns-in-Some-Ref : goal.returns-in-Some-Ref
returns-in-Some-Ref g c = refuses c.invalid_string_at.result _ _ _ (string_at c.args.node.now _ _ c.in-Some-Ref.is (ap primary_form (rw c.in-Some-Ref.is at c.in-Some-Ref.field-0-is) ∙ primary_ref _)) c.invalid_string_at.ensures

pub returns-in-Some-Name : goal.returns-in-Some-Name
returns-in-Some-Name g c = refuses c.name_as_string.result _ _ _ (string_at c.args.node.now _ _ c.in-Some-Name.is (ap primary_form (rw c.in-Some-Name.is at c.in-Some-Name.field-0-is) ∙ primary_name _)) c.name_as_string.ensures

pub returns-in-Some-Slot : goal.returns-in-Some-Slot
returns-in-Some-Slot g c = refuses c.invalid_string_at-in-Some-Slot.result _ _ _ (string_at c.args.node.now _ _ c.in-Some-Slot.is (ap primary_form (rw c.in-Some-Slot.is at c.in-Some-Slot.field-0-is) ∙ primary_slot _)) c.invalid_string_at-in-Some-Slot.ensures

pub returns-in-Some-Expr : goal.returns-in-Some-Expr
returns-in-Some-Expr g c = refuses c.invalid_string_at-in-Some-Expr.result _ _ _ (string_at c.args.node.now _ _ c.in-Some-Expr.is (ap primary_form (rw c.in-Some-Expr.is at c.in-Some-Expr.field-0-is) ∙ primary_expr _)) c.invalid_string_at-in-Some-Expr.ensures

pub returns-in-Some-EList : goal.returns-in-Some-EList
returns-in-Some-EList g c = refuses c.invalid_string_at-in-Some-EList.result _ _ _ (string_at c.args.node.now _ _ c.in-Some-EList.is (ap primary_form (rw c.in-Some-EList.is at c.in-Some-EList.field-0-is) ∙ primary_list _)) c.invalid_string_at-in-Some-EList.ensures

pub returns-in-Some-RInits : goal.returns-in-Some-RInits
returns-in-Some-RInits g c = refuses c.invalid_string_at-in-Some-RInits.result _ _ _ (string_at c.args.node.now _ _ c.in-Some-RInits.is (ap primary_form (rw c.in-Some-RInits.is at c.in-Some-RInits.field-0-is) ∙ primary_inits _)) c.invalid_string_at-in-Some-RInits.ensures

pub returns-in-None : goal.returns-in-None
returns-in-None g c = refuses c.empty_node.result _ _ _ (no_string c.args.node.now c.in-None.is) c.empty_node.ensures

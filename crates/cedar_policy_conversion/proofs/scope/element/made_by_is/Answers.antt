use Rattle.std.proofs.Common.{sym, ◌∙◌}
use Rattle.cedar_policy_conversion.proofs.IsKinds as k
use Rattle.cedar_policy_conversion.proofs.scope.element.made_by_is.Goals as goal

pub returns-in-Unary : goal.returns-in-Unary
returns-in-Unary c = c.is_call.ensures ∙ k.made_unary c.args.expr.now _ _ (sym c.kind.ensures ∙ c.in-Unary.is)

pub returns-in-Val : goal.returns-in-Val
returns-in-Val c = k.made_val c.args.expr.now _ (sym c.kind.ensures ∙ c.in-Val.is)

pub returns-in-Var : goal.returns-in-Var
returns-in-Var c = k.made_var c.args.expr.now _ (sym c.kind.ensures ∙ c.in-Var.is)

pub returns-in-Slot : goal.returns-in-Slot
returns-in-Slot c = k.made_slot c.args.expr.now _ (sym c.kind.ensures ∙ c.in-Slot.is)

pub returns-in-Ite : goal.returns-in-Ite
returns-in-Ite c = k.made_ite c.args.expr.now _ (sym c.kind.ensures ∙ c.in-Ite.is)

pub returns-in-Binary : goal.returns-in-Binary
returns-in-Binary c = k.made_binary c.args.expr.now _ _ (sym c.kind.ensures ∙ c.in-Binary.is)

pub returns-in-Nary : goal.returns-in-Nary
returns-in-Nary c = k.made_nary c.args.expr.now _ _ _ (sym c.kind.ensures ∙ c.in-Nary.is)

pub returns-in-Sum : goal.returns-in-Sum
returns-in-Sum c = k.made_sum c.args.expr.now _ _ (sym c.kind.ensures ∙ c.in-Sum.is)

pub returns-in-List : goal.returns-in-List
returns-in-List c = k.made_list c.args.expr.now _ _ (sym c.kind.ensures ∙ c.in-List.is)

pub returns-in-Record : goal.returns-in-Record
returns-in-Record c = k.made_record c.args.expr.now _ (sym c.kind.ensures ∙ c.in-Record.is)

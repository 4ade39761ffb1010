use Rattle.std.proofs.Common.{ap, sym, ◌∙◌}
use Rattle.cedar_writer.specs.Writing.{sort_of}
use Rattle.cedar_writer.proofs.MeaningByKind.{at_val, at_var, at_slot, at_ite, at_unary, at_binary, at_nary, at_sum, at_list, at_record}
use Rattle.cedar_writer.proofs.sort.sort_of.Goals as goal

pub returns-in-Val : goal.returns-in-Val
returns-in-Val c = c.literal_sort.ensures ∙ ap sort_of (sym (at_val c.args.expr.now _ c.kind.ensures c.in-Val.literal c.in-Val.is))

pub returns-in-Var : goal.returns-in-Var
returns-in-Var c = ap sort_of (sym (at_var c.args.expr.now _ c.kind.ensures c.in-Var.field-0 c.in-Var.is))

pub returns-in-Slot : goal.returns-in-Slot
returns-in-Slot c = ap sort_of (sym (at_slot c.args.expr.now _ c.kind.ensures c.in-Slot.field-0 c.in-Slot.is))

pub returns-in-Ite : goal.returns-in-Ite
returns-in-Ite c = ap sort_of (sym (at_ite c.args.expr.now _ c.kind.ensures c.in-Ite.field-0 c.in-Ite.is))

pub returns-in-Unary : goal.returns-in-Unary
returns-in-Unary c = c.unary_sort.ensures _ ∙ ap sort_of (sym (at_unary c.args.expr.now _ c.kind.ensures c.in-Unary.call c.in-Unary.field-1 c.in-Unary.is))

pub returns-in-Binary : goal.returns-in-Binary
returns-in-Binary c = c.binary_sort.ensures _ _ ∙ ap sort_of (sym (at_binary c.args.expr.now _ c.kind.ensures c.in-Binary.call c.in-Binary.field-1 c.in-Binary.is))

pub returns-in-Nary : goal.returns-in-Nary
returns-in-Nary c = c.nary_sort.ensures _ _ ∙ ap sort_of (sym (at_nary c.args.expr.now _ c.kind.ensures c.in-Nary.op c.in-Nary.field-1 c.in-Nary.field-2 c.in-Nary.is))

pub returns-in-Sum : goal.returns-in-Sum
returns-in-Sum c = ap sort_of (sym (at_sum c.args.expr.now _ c.kind.ensures c.in-Sum.field-0 c.in-Sum.field-1 c.in-Sum.is))

pub returns-in-List : goal.returns-in-List
returns-in-List c = c.list_sort.ensures _ ∙ ap sort_of (sym (at_list c.args.expr.now _ c.kind.ensures c.in-List.call c.in-List.field-1 c.in-List.is))

pub returns-in-Record : goal.returns-in-Record
returns-in-Record c = ap sort_of (sym (at_record c.args.expr.now _ c.kind.ensures c.in-Record.field-0 c.in-Record.is))

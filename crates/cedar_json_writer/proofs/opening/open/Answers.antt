use Rattle.std.proofs.Common.{ℕ, List, map, ap, ap₂, sym, ◌∙◌}
use Rattle.cedar_expressions.specs.declared.expr.Expr.{Expr}
use Rattle.cedar_expressions.specs.declared.operators.AddOp.{AddOp}
use Rattle.cedar_expressions.specs.Meaning.{expr_meaning, unary_call, binary_call, nary_call, list_call}
use Rattle.cedar_expressions.specs.Value as v
use Rattle.cedar_expressions.specs.Value.{values, terms, fields}
use Rattle.cedar_json_writer.specs.machines.Pending.{term_value, field_value}
use Rattle.cedar_json_writer.proofs.MeaningByKind.{at_val, at_var, at_slot, at_ite, at_unary, at_binary, at_nary, at_sum, at_list, at_record}
use Rattle.cedar_json_writer.proofs.Openings.{told}
use Rattle.cedar_json_writer.proofs.opening.open.Goals as goal

pub returns-in-Val : goal.returns-in-Val
returns-in-Val c =
    told c.open_literal.result c.args.todo.now c.open_literal.new.todo
    (sym (at_val c.args.expr.now _ c.kind.ensures c.in-Val.literal c.in-Val.is))
    c.open_literal.ensures

pub returns-in-Var : goal.returns-in-Var
returns-in-Var c =
    told c.open_var.result c.args.todo.now c.open_var.new.todo
    (sym (at_var c.args.expr.now _ c.kind.ensures c.in-Var.var c.in-Var.is))
    c.open_var.ensures

pub returns-in-Slot : goal.returns-in-Slot
returns-in-Slot c =
    told c.open_slot.result c.args.todo.now c.open_slot.new.todo
    (sym (at_slot c.args.expr.now _ c.kind.ensures c.in-Slot.slot c.in-Slot.is))
    (c.open_slot.ensures c.args.expr.now.place.place)

pub returns-in-Ite : goal.returns-in-Ite
returns-in-Ite c =
    told c.open_conditional.result c.args.todo.now c.open_conditional.new.todo
    (ap (λ (q : Expr × Expr × Expr). v.ite (expr_meaning q.0) (expr_meaning q.1) (expr_meaning q.2)) c.as_ref.ensures
    ∙ sym (at_ite c.args.expr.now _ c.kind.ensures c.in-Ite.parts c.in-Ite.is))
    c.open_conditional.ensures

pub returns-in-Unary : goal.returns-in-Unary
returns-in-Unary c =
    told c.open_unary.result c.args.todo.now c.open_unary.new.todo
    (ap (λ (e : Expr). unary_call c.in-Unary.call (expr_meaning e)) c.as_ref-in-Unary.ensures
    ∙ sym (at_unary c.args.expr.now _ c.kind.ensures c.in-Unary.call c.in-Unary.a c.in-Unary.is))
    c.open_unary.ensures

pub returns-in-Binary : goal.returns-in-Binary
returns-in-Binary c =
    told c.open_binary.result c.args.todo.now c.open_binary.new.todo
    (ap (λ (q : Expr × Expr). binary_call c.in-Binary.call (expr_meaning q.0) (expr_meaning q.1)) c.as_ref-in-Binary.ensures
    ∙ sym (at_binary c.args.expr.now _ c.kind.ensures c.in-Binary.call c.in-Binary.parts c.in-Binary.is))
    c.open_binary.ensures

pub returns-in-Nary : goal.returns-in-Nary
returns-in-Nary c =
    told c.open_nary.result c.args.todo.now c.open_nary.new.todo
    (ap₂ (λ (e : Expr) (es : List Expr). nary_call c.in-Nary.op (expr_meaning e) (values (map expr_meaning es))) c.as_ref-in-Nary.ensures c.as_slice.ensures
    ∙ sym (at_nary c.args.expr.now _ c.kind.ensures c.in-Nary.op c.in-Nary.first c.in-Nary.rest c.in-Nary.is))
    c.open_nary.ensures

pub returns-in-Sum : goal.returns-in-Sum
returns-in-Sum c =
    told c.open_sum.result c.args.todo.now c.open_sum.new.todo
    (ap₂ (λ (e : Expr) (ts : List (AddOp × Expr)). v.add_nary (expr_meaning e) (terms (map term_value ts))) c.as_ref-in-Sum.ensures c.as_slice-in-Sum.ensures
    ∙ sym (at_sum c.args.expr.now _ c.kind.ensures c.in-Sum.first c.in-Sum.rest c.in-Sum.is))
    c.open_sum.ensures

pub returns-in-List : goal.returns-in-List
returns-in-List c =
    told c.open_list.result c.args.todo.now c.open_list.new.todo
    (ap (λ (es : List Expr). list_call c.in-List.call (values (map expr_meaning es))) c.as_slice-in-List.ensures
    ∙ sym (at_list c.args.expr.now _ c.kind.ensures c.in-List.call c.in-List.items c.in-List.is))
    c.open_list.ensures

pub returns-in-Record : goal.returns-in-Record
returns-in-Record c =
    told c.open_record.result c.args.todo.now c.open_record.new.todo
    (ap (λ (ps : List (List ℕ × Expr)). v.«record» (fields (map field_value ps))) c.as_slice-in-Record.ensures
    ∙ sym (at_record c.args.expr.now _ c.kind.ensures c.in-Record.pairs c.in-Record.is))
    c.open_record.ensures

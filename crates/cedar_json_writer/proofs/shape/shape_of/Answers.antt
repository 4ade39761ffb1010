use Rattle.std.proofs.Common.{refl, ap, sym, ◌∙◌}
use Rattle.cedar_expressions.specs.declared.expr.Expr.{Expr}
use Rattle.cedar_expressions.specs.Meaning.{expr_meaning, unary_call, binary_call}
use Rattle.cedar_json_writer.specs.declared.shape.Shape.TheVariants.{Other}
use Rattle.cedar_json_writer.proofs.MeaningByKind.{at_val, at_var, at_slot, at_ite, at_unary, at_binary, at_nary, at_sum, at_list, at_record}
use Rattle.cedar_json_writer.proofs.Shaped.{of_nary, of_list, shaped}
use Rattle.cedar_json_writer.proofs.shape.shape_of.Goals as goal

pub returns-in-Val : goal.returns-in-Val
returns-in-Val c = shaped Other (sym (at_val c.args.expr.now _ c.kind.ensures c.in-Val.field-0 c.in-Val.is)) (refl, refl)

pub returns-in-Var : goal.returns-in-Var
returns-in-Var c = shaped Other (sym (at_var c.args.expr.now _ c.kind.ensures c.in-Var.field-0 c.in-Var.is)) (refl, refl)

pub returns-in-Slot : goal.returns-in-Slot
returns-in-Slot c = shaped Other (sym (at_slot c.args.expr.now _ c.kind.ensures c.in-Slot.field-0 c.in-Slot.is)) (refl, refl)

pub returns-in-Ite : goal.returns-in-Ite
returns-in-Ite c = shaped Other (sym (at_ite c.args.expr.now _ c.kind.ensures c.in-Ite.field-0 c.in-Ite.is)) (refl, refl)

pub returns-in-Unary : goal.returns-in-Unary
returns-in-Unary c =
    shaped c.unary_shape.result
    (ap (λ (e : Expr). unary_call c.in-Unary.call (expr_meaning e)) c.as_ref.ensures
    ∙ sym (at_unary c.args.expr.now _ c.kind.ensures c.in-Unary.call c.in-Unary.a c.in-Unary.is))
    c.unary_shape.ensures

pub returns-in-Binary : goal.returns-in-Binary
returns-in-Binary c =
    shaped c.binary_shape.result
    (ap (λ (q : Expr × Expr). binary_call c.in-Binary.call (expr_meaning q.0) (expr_meaning q.1)) c.as_ref-in-Binary.ensures
    ∙ sym (at_binary c.args.expr.now _ c.kind.ensures c.in-Binary.call c.in-Binary.parts c.in-Binary.is))
    c.binary_shape.ensures

pub returns-in-Nary : goal.returns-in-Nary
returns-in-Nary c = shaped Other (sym (at_nary c.args.expr.now _ c.kind.ensures c.in-Nary.field-0 c.in-Nary.field-1 c.in-Nary.field-2 c.in-Nary.is)) (of_nary c.in-Nary.field-0 _ _)

pub returns-in-Sum : goal.returns-in-Sum
returns-in-Sum c = shaped Other (sym (at_sum c.args.expr.now _ c.kind.ensures c.in-Sum.field-0 c.in-Sum.field-1 c.in-Sum.is)) (refl, refl)

pub returns-in-List : goal.returns-in-List
returns-in-List c = shaped Other (sym (at_list c.args.expr.now _ c.kind.ensures c.in-List.field-0 c.in-List.field-1 c.in-List.is)) (of_list c.in-List.field-0 _)

pub returns-in-Record : goal.returns-in-Record
returns-in-Record c = shaped Other (sym (at_record c.args.expr.now _ c.kind.ensures c.in-Record.field-0 c.in-Record.is)) (refl, refl)

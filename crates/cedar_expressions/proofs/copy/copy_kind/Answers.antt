use Rattle.std.proofs.Common.{refl, ap, ◌∙◌}
use Rattle.cedar_expressions.specs.declared.expr.ExprKind.TheVariants as kind
use Rattle.cedar_expressions.proofs.CopiesAt.{val_copied, var_copied, slot_copied, ite_copied, unary_copied, binary_copied, nary_copied, sum_copied, list_copied, record_copied, of_ok}
use Rattle.cedar_expressions.proofs.copy.copy_kind.Goals as goal

pub returns-in_ok-try_clone-in-Val-clause-copy : goal.returns-in_ok-try_clone-in-Val-clause-copy
returns-in_ok-try_clone-in-Val-clause-copy c = λ rest holds.
    val_copied c.args.entities.now c.args.kind.now _ c.in-Val.literal c.in-Val.is (ap kind.Val c.in_ok-try_clone-in-Val.ensures)

pub returns-in-Var-clause-copy : goal.returns-in-Var-clause-copy
returns-in-Var-clause-copy c = λ rest holds.
    var_copied c.args.entities.now c.args.kind.now _ c.in-Var.var c.in-Var.is refl

pub returns-in-Slot-clause-copy : goal.returns-in-Slot-clause-copy
returns-in-Slot-clause-copy c = λ rest holds.
    of_ok c.slot_kind.result (λ copy own. slot_copied c.args.entities.now c.args.kind.now copy c.in-Slot.id c.in-Slot.is own) c.slot_kind.ensures

pub returns-in_ok-copy_three-in-Ite-clause-copy : goal.returns-in_ok-copy_three-in-Ite-clause-copy
returns-in_ok-copy_three-in-Ite-clause-copy c = λ rest holds.
    (ite_copied c.args.entities.now c.args.kind.now c.in-Ite.parts c.in_ok-copy_three-in-Ite.field-0 c.args.copies.now c.copy_three.new.copies rest c.in-Ite.is holds c.in_ok-copy_three-in-Ite.ensures).0

pub returns-in_ok-try_clone-in-Unary-clause-copy : goal.returns-in_ok-try_clone-in-Unary-clause-copy
returns-in_ok-try_clone-in-Unary-clause-copy c = λ rest holds.
    ap (λ call. kind.Unary call c.in_ok-copy-in-Unary.copy) c.in_ok-try_clone-in-Unary.ensures
    ∙ (unary_copied c.args.entities.now c.args.kind.now c.in-Unary.call c.in-Unary.operand c.in_ok-copy-in-Unary.copy c.args.copies.now c.copy_one.new.copies rest c.in-Unary.is holds c.in_ok-copy-in-Unary.ensures).0

pub returns-in_ok-try_clone-in-Binary-clause-copy : goal.returns-in_ok-try_clone-in-Binary-clause-copy
returns-in_ok-try_clone-in-Binary-clause-copy c = λ rest holds.
    ap (λ call. kind.Binary call c.in_ok-copy-in-Binary.copy) c.in_ok-try_clone-in-Binary.ensures
    ∙ (binary_copied c.args.entities.now c.args.kind.now c.in-Binary.call c.in-Binary.parts c.in_ok-copy-in-Binary.copy c.args.copies.now c.copy_two.new.copies rest c.in-Binary.is holds c.in_ok-copy-in-Binary.ensures).0

pub returns-in_ok-copy_items-in-Nary-clause-copy : goal.returns-in_ok-copy_items-in-Nary-clause-copy
returns-in_ok-copy_items-in-Nary-clause-copy c = λ rest holds.
    (nary_copied c.args.entities.now c.args.kind.now c.in-Nary.op c.in-Nary.first c.in_ok-copy-in-Nary.copy c.in-Nary.rest c.in_ok-copy_items-in-Nary.field-0 c.args.copies.now c.copy_one-in-Nary.new.copies c.copy_items.new.copies rest c.in-Nary.is holds c.in_ok-copy-in-Nary.ensures c.in_ok-copy_items-in-Nary.ensures.taken c.in_ok-copy_items-in-Nary.ensures.number).0

pub returns-in_ok-copy_items-in-Nary-clause-left : goal.returns-in_ok-copy_items-in-Nary-clause-left
returns-in_ok-copy_items-in-Nary-clause-left c = λ rest holds.
    (nary_copied c.args.entities.now c.args.kind.now c.in-Nary.op c.in-Nary.first c.in_ok-copy-in-Nary.copy c.in-Nary.rest c.in_ok-copy_items-in-Nary.field-0 c.args.copies.now c.copy_one-in-Nary.new.copies c.copy_items.new.copies rest c.in-Nary.is holds c.in_ok-copy-in-Nary.ensures c.in_ok-copy_items-in-Nary.ensures.taken c.in_ok-copy_items-in-Nary.ensures.number).1

pub returns-in_ok-copy_marked-in-Sum-clause-copy : goal.returns-in_ok-copy_marked-in-Sum-clause-copy
returns-in_ok-copy_marked-in-Sum-clause-copy c = λ rest holds.
    (sum_copied c.args.entities.now c.args.kind.now c.in-Sum.first c.in_ok-copy-in-Sum.copy c.in-Sum.rest c.in_ok-copy_marked-in-Sum.field-0 c.args.copies.now c.copy_one-in-Sum.new.copies c.copy_marked.new.copies rest c.in-Sum.is holds c.in_ok-copy-in-Sum.ensures c.in_ok-copy_marked-in-Sum.ensures.taken c.in_ok-copy_marked-in-Sum.ensures.marks).0

pub returns-in_ok-copy_marked-in-Sum-clause-left : goal.returns-in_ok-copy_marked-in-Sum-clause-left
returns-in_ok-copy_marked-in-Sum-clause-left c = λ rest holds.
    (sum_copied c.args.entities.now c.args.kind.now c.in-Sum.first c.in_ok-copy-in-Sum.copy c.in-Sum.rest c.in_ok-copy_marked-in-Sum.field-0 c.args.copies.now c.copy_one-in-Sum.new.copies c.copy_marked.new.copies rest c.in-Sum.is holds c.in_ok-copy-in-Sum.ensures c.in_ok-copy_marked-in-Sum.ensures.taken c.in_ok-copy_marked-in-Sum.ensures.marks).1

pub returns-in_ok-try_clone-in-List-clause-copy : goal.returns-in_ok-try_clone-in-List-clause-copy
returns-in_ok-try_clone-in-List-clause-copy c = λ rest holds.
    ap (λ call. kind.List call c.in_ok-copy-in-List.copy) c.in_ok-try_clone-in-List.ensures
    ∙ (list_copied c.args.entities.now c.args.kind.now c.in-List.call c.in-List.items c.in_ok-copy-in-List.copy c.args.copies.now c.copy_items-in-List.new.copies rest c.in-List.is holds c.in_ok-copy-in-List.ensures.taken c.in_ok-copy-in-List.ensures.number).0

pub returns-in_ok-try_clone-in-List-clause-left : goal.returns-in_ok-try_clone-in-List-clause-left
returns-in_ok-try_clone-in-List-clause-left c = λ rest holds.
    (list_copied c.args.entities.now c.args.kind.now c.in-List.call c.in-List.items c.in_ok-copy-in-List.copy c.args.copies.now c.copy_items-in-List.new.copies rest c.in-List.is holds c.in_ok-copy-in-List.ensures.taken c.in_ok-copy-in-List.ensures.number).1

pub returns-in_ok-copy_marked-in-Record-clause-copy : goal.returns-in_ok-copy_marked-in-Record-clause-copy
returns-in_ok-copy_marked-in-Record-clause-copy c = λ rest holds.
    (record_copied c.args.entities.now c.args.kind.now c.in-Record.pairs c.in_ok-copy_marked-in-Record.field-0 c.args.copies.now c.copy_marked-in-Record.new.copies rest c.in-Record.is holds c.in_ok-copy_marked-in-Record.ensures.taken c.in_ok-copy_marked-in-Record.ensures.marks).0

pub returns-in_ok-copy_marked-in-Record-clause-left : goal.returns-in_ok-copy_marked-in-Record-clause-left
returns-in_ok-copy_marked-in-Record-clause-left c = λ rest holds.
    (record_copied c.args.entities.now c.args.kind.now c.in-Record.pairs c.in_ok-copy_marked-in-Record.field-0 c.args.copies.now c.copy_marked-in-Record.new.copies rest c.in-Record.is holds c.in_ok-copy_marked-in-Record.ensures.taken c.in_ok-copy_marked-in-Record.ensures.marks).1

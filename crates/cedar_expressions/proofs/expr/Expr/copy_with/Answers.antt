use Rattle.std.proofs.Common.{refl, ap, sym, ◌∙◌}
use Rattle.cedar_expressions.specs.declared.expr.ExprKind.TheVariants as kind
use Rattle.cedar_expressions.proofs.CopiesAt.{node_copied, val_copied, var_copied, slot_copied}
use Rattle.cedar_expressions.proofs.expr.Expr.copy_with.Goals as goal

pub returns-in_ok-try_clone-in-Val : goal.returns-in_ok-try_clone-in-Val
returns-in_ok-try_clone-in-Val c =
    node_copied c.args.entities.now c.args.self.now c.at.result (kind.Val c.in_ok-try_clone-in-Val.field-0) c.place.result c.at.ensures c.place.ensures
    (val_copied c.args.entities.now c.args.self.now.kind _ c.in-Val.literal (sym c.kind.ensures ∙ c.in-Val.is) (ap kind.Val c.in_ok-try_clone-in-Val.ensures))

pub returns-in-Var : goal.returns-in-Var
returns-in-Var c =
    node_copied c.args.entities.now c.args.self.now c.at-in-Var.result (kind.Var c.in-Var.var) c.place-in-Var.result c.at-in-Var.ensures c.place-in-Var.ensures
    (var_copied c.args.entities.now c.args.self.now.kind _ c.in-Var.var (sym c.kind.ensures ∙ c.in-Var.is) refl)

pub returns-in_ok-slot_kind-in-Slot : goal.returns-in_ok-slot_kind-in-Slot
returns-in_ok-slot_kind-in-Slot c =
    node_copied c.args.entities.now c.args.self.now c.at-in-Slot.result c.in_ok-slot_kind-in-Slot.field-0 c.place-in-Slot.result c.at-in-Slot.ensures c.place-in-Slot.ensures
    (slot_copied c.args.entities.now c.args.self.now.kind _ c.in-Slot.id (sym c.kind.ensures ∙ c.in-Slot.is) c.in_ok-slot_kind-in-Slot.ensures)

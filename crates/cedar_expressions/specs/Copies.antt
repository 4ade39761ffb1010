-- An expression with entities in the place of its slots, node by node; places stay.
use Rattle.std.specs.Prelude.{◌≡◌, ◌++◌, List, Option, Some, None, map}
use Rattle.cedar_expressions.specs.declared.atoms.SlotId.{SlotId}
use Rattle.cedar_expressions.specs.declared.atoms.Literal.TheVariants as literal
use Rattle.cedar_expressions.specs.declared.entity.EntityUID.{EntityUID}
use Rattle.cedar_expressions.specs.declared.slot_entities.SlotEntities.{SlotEntities}
use Rattle.cedar_expressions.specs.declared.expr.Expr.{Expr}
use Rattle.cedar_expressions.specs.declared.expr.ExprKind.{ExprKind}
use Rattle.cedar_expressions.specs.declared.expr.ExprKind.TheOpen.{ExprKind-F, Expr-F}
use Rattle.cedar_expressions.specs.declared.expr.ExprKind.TheFolds.{fold-Expr, fold-ExprKind}
use Rattle.cedar_expressions.specs.declared.expr.ExprKind.TheVariants as kind
use Rattle.cedar_expressions.specs.Filled.{entity_for}

-- a slot's node is its entity's then, if it has one; each other node stays what it is
abbrev pub slot_copy : Option EntityUID → SlotId → ExprKind
slot_copy None id = kind.Slot id
slot_copy (Some entity) id = kind.Val (literal.EntityUID entity)

abbrev pub kind_copy : SlotEntities → ExprKind-F ExprKind Expr → ExprKind
kind_copy es (ExprKind-F.Val literal) = kind.Val literal
kind_copy es (ExprKind-F.Var x) = kind.Var x
kind_copy es (ExprKind-F.Slot id) = slot_copy (entity_for es id) id
kind_copy es (ExprKind-F.Ite parts) = kind.Ite parts
kind_copy es (ExprKind-F.Unary call a) = kind.Unary call a
kind_copy es (ExprKind-F.Binary call parts) = kind.Binary call parts
kind_copy es (ExprKind-F.Nary op a rest) = kind.Nary op a rest
kind_copy es (ExprKind-F.Sum a rest) = kind.Sum a rest
kind_copy es (ExprKind-F.List call items) = kind.List call items
kind_copy es (ExprKind-F.Record pairs) = kind.Record pairs

abbrev pub expr_copy : Expr-F ExprKind Expr → Expr
expr_copy e = record { kind = e.kind; place = e.place }

unfoldable pub copied : SlotEntities → Expr → Expr
copied es = fold-Expr ExprKind Expr (kind_copy es) expr_copy

unfoldable pub kind_copied : SlotEntities → ExprKind → ExprKind
kind_copied es = fold-ExprKind ExprKind Expr (kind_copy es) expr_copy

-- the copies of some expressions are the newest, before others
abbrev pub HoldsCopies : SlotEntities → List Expr → List Expr → List Expr → Type 0
HoldsCopies es of copies rest = copies ≡ map (copied es) of ++ rest

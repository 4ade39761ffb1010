-- What a walk by an explicit list has seen and what waits. No public clause cites this module.
use Rattle.std.specs.Prelude.{List, Option, Some, None, map}
use Rattle.cedar_expressions.specs.declared.place.Place.{Place}
use Rattle.cedar_expressions.specs.declared.place.Slot.{Slot}
use Rattle.cedar_expressions.specs.declared.expr.Expr.{Expr}
use Rattle.cedar_expressions.specs.declared.expr.ExprKind.{ExprKind}
use Rattle.cedar_expressions.specs.declared.expr.ExprKind.TheOpen.{ExprKind-F}
use Rattle.cedar_expressions.specs.declared.expr.ExprKind.TheViews.{out-ExprKind}
use denote.Ref.{Bor}
use Rattle.cedar_expressions.specs.Placed.{place_of}

-- the expressions that wait
abbrev pub shown : List (Bor Expr) → List Expr
shown rest = map (λ e. e.now) rest

-- the slot that a node itself is
abbrev pub form_slot : ExprKind-F ExprKind Expr → Option Place → Option Slot
form_slot (ExprKind-F.Val _) place = None
form_slot (ExprKind-F.Var _) place = None
form_slot (ExprKind-F.Slot id) place = Some (record { id = id; place = place })
form_slot (ExprKind-F.Ite _) place = None
form_slot (ExprKind-F.Unary _ _) place = None
form_slot (ExprKind-F.Binary _ _) place = None
form_slot (ExprKind-F.Nary _ _ _) place = None
form_slot (ExprKind-F.Sum _ _) place = None
form_slot (ExprKind-F.List _ _) place = None
form_slot (ExprKind-F.Record _) place = None

abbrev pub own_slot : Expr → Option Slot
own_slot e = form_slot (out-ExprKind e.kind) (place_of e)

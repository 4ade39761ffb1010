-- What an expression means: the builder calls that made it, a slot with its node's place; and the
-- same, places aside, at which equality looks.
use Rattle.std.specs.Prelude.{Option}
use Rattle.cedar_expressions.specs.declared.operators.UnaryOp.{UnaryOp}
use Rattle.cedar_expressions.specs.declared.operators.UnaryOp.TheVariants as operator
use Rattle.cedar_expressions.specs.declared.expr.UnaryCall.{UnaryCall}
use Rattle.cedar_expressions.specs.declared.expr.UnaryCall.TheVariants as unary
use Rattle.cedar_expressions.specs.declared.expr.BinaryOp.{BinaryOp}
use Rattle.cedar_expressions.specs.declared.expr.BinaryOp.TheVariants as between
use Rattle.cedar_expressions.specs.declared.expr.BinaryCall.{BinaryCall}
use Rattle.cedar_expressions.specs.declared.expr.BinaryCall.TheVariants as binary
use Rattle.cedar_expressions.specs.declared.expr.NaryOp.{NaryOp}
use Rattle.cedar_expressions.specs.declared.expr.NaryOp.TheVariants as nary
use Rattle.cedar_expressions.specs.declared.expr.ListCall.{ListCall}
use Rattle.cedar_expressions.specs.declared.expr.ListCall.TheVariants as list
use Rattle.cedar_expressions.specs.declared.place.Place.{Place}
use Rattle.cedar_expressions.specs.declared.expr.Expr.{Expr}
use Rattle.cedar_expressions.specs.declared.expr.ExprKind.{ExprKind}
use Rattle.cedar_expressions.specs.declared.expr.ExprKind.TheOpen.{ExprKind-F, Expr-F}
use Rattle.cedar_expressions.specs.declared.expr.ExprKind.TheFolds.{fold-Expr, fold-ExprKind}
use Rattle.cedar_expressions.specs.Value as v
use Rattle.cedar_expressions.specs.Value.{Value, Values, values, terms, fields}
use Rattle.cedar_expressions.specs.WithoutPlaces.{without_places}

-- a call of one expression
abbrev pub operator_call : UnaryOp → Value → Value
operator_call operator.Not = v.not
operator_call operator.Neg = v.neg

abbrev pub unary_call : UnaryCall → Value → Value
unary_call (unary.Op op) a = operator_call op a
unary_call unary.IsEmpty a = v.is_empty a
unary_call (unary.Like pattern) a = v.like a pattern
unary_call (unary.Is entity_type) a = v.is_entity_type a entity_type
unary_call (unary.GetAttr attr) a = v.get_attr a attr
unary_call (unary.ExtendedHasAttr first rest) a = v.extended_has_attr a first rest

-- a call of two expressions
abbrev pub between_call : BinaryOp → Value → Value → Value
between_call between.And = v.and
between_call between.Less = v.less
between_call between.LessEq = v.lesseq
between_call between.Greater = v.greater
between_call between.GreaterEq = v.greatereq
between_call between.Eq = v.is_eq
between_call between.NotEq = v.noteq
between_call between.In = v.is_in
between_call between.Contains = v.contains
between_call between.ContainsAll = v.contains_all
between_call between.ContainsAny = v.contains_any
between_call between.GetTag = v.get_tag
between_call between.HasTag = v.has_tag

abbrev pub binary_call : BinaryCall → Value → Value → Value
binary_call (binary.Op op) a b = between_call op a b
binary_call (binary.IsIn entity_type) a b = v.is_in_entity_type a entity_type b

-- an operator between operands of any number
abbrev pub nary_call : NaryOp → Value → Values → Value
nary_call nary.Or = v.or_nary
nary_call nary.And = v.and_naryl
nary_call nary.Mul = v.mul_nary

-- a call of a list of expressions
abbrev pub list_call : ListCall → Values → Value
list_call list.Set = v.set
list_call (list.Extension function) = v.call_extension_fn function

-- one call, of parts that are done, whose node stands at a place; no kind holds another, so `K`,
-- what a kind would be made into, is of no account
abbrev pub kind_call : (K : Type 0) → ExprKind-F K Value → Option Place → Value
kind_call K (ExprKind-F.Val literal) place = v.val literal
kind_call K (ExprKind-F.Var x) place = v.var x
kind_call K (ExprKind-F.Slot slot) place = v.slot (record { id = slot; place = place })
kind_call K (ExprKind-F.Ite parts) place = v.ite parts.0 parts.1 parts.2
kind_call K (ExprKind-F.Unary call a) place = unary_call call a
kind_call K (ExprKind-F.Binary call parts) place = binary_call call parts.0 parts.1
kind_call K (ExprKind-F.Nary op a rest) place = nary_call op a (values rest)
kind_call K (ExprKind-F.Sum a rest) place = v.add_nary a (terms rest)
kind_call K (ExprKind-F.List call items) place = list_call call (values items)
kind_call K (ExprKind-F.Record pairs) place = v.«record» (fields pairs)

-- a kind is a call once its node's place is known
abbrev pub AtPlace : Type 0
AtPlace = Option Place → Value

abbrev pub expr_call : Expr-F AtPlace Value → Value
expr_call e = e.kind e.place.place

-- what an expression means, and what its kind does at a place
unfoldable pub expr_meaning : Expr → Value
expr_meaning = fold-Expr AtPlace Value (kind_call AtPlace) expr_call

unfoldable pub kind_meaning : ExprKind → Option Place → Value
kind_meaning = fold-ExprKind AtPlace Value (kind_call AtPlace) expr_call

-- the same, places aside
unfoldable pub unplaced : Expr → Value
unplaced e = without_places (expr_meaning e)

-- The slots of calls, of rows of parts, and of an expression by its kind.
use Rattle.std.proofs.Common.{◌≡◌, List, [], ◌∷◌, ◌++◌, refl, ap, map}
use Rattle.cedar_expressions.specs.declared.operators.AddOp.{AddOp}
use Rattle.cedar_expressions.specs.declared.text.Text.{Text}
use Rattle.cedar_expressions.specs.declared.expr.Expr.{Expr}
use Rattle.cedar_expressions.specs.declared.operators.UnaryOp.TheVariants as operator
use Rattle.cedar_expressions.specs.declared.expr.UnaryCall.{UnaryCall}
use Rattle.cedar_expressions.specs.declared.expr.UnaryCall.TheVariants as unary
use Rattle.cedar_expressions.specs.declared.expr.BinaryCall.{BinaryCall}
use Rattle.cedar_expressions.specs.declared.expr.BinaryCall.TheVariants as binary
use Rattle.cedar_expressions.specs.declared.expr.BinaryOp.TheVariants as between
use Rattle.cedar_expressions.specs.declared.expr.NaryOp.{NaryOp}
use Rattle.cedar_expressions.specs.declared.expr.NaryOp.TheVariants as nary
use Rattle.cedar_expressions.specs.declared.expr.ListCall.{ListCall}
use Rattle.cedar_expressions.specs.declared.expr.ListCall.TheVariants as list
use Rattle.cedar_expressions.specs.declared.expr.ExprKind.TheFolds.{fold_out-Expr}
use Rattle.cedar_expressions.specs.Meaning.{AtPlace, kind_call, expr_call, unary_call, binary_call, nary_call, list_call, expr_meaning, kind_meaning}
use Rattle.cedar_expressions.specs.Slots.{slots_of, slots_of_all, slots_of_terms, slots_of_fields, slots_in, slots_of_kind, slots_in_row, term_slots, pair_slots}
use Rattle.cedar_expressions.specs.Value.{Value, values, terms, fields}

-- ---- calls

pub of_unary : (call : UnaryCall) (a : Value) → slots_of (unary_call call a) ≡ slots_of a
unfolding slots_of
of_unary (unary.Op operator.Not) a = refl
of_unary (unary.Op operator.Neg) a = refl
of_unary unary.IsEmpty a = refl
of_unary (unary.Like pattern) a = refl
of_unary (unary.Is entity_type) a = refl
of_unary (unary.GetAttr attr) a = refl
of_unary (unary.ExtendedHasAttr first rest) a = refl

pub of_binary : (call : BinaryCall) (a b : Value) → slots_of (binary_call call a b) ≡ slots_of a ++ slots_of b
unfolding slots_of
of_binary (binary.Op between.And) a b = refl
of_binary (binary.Op between.Less) a b = refl
of_binary (binary.Op between.LessEq) a b = refl
of_binary (binary.Op between.Greater) a b = refl
of_binary (binary.Op between.GreaterEq) a b = refl
of_binary (binary.Op between.Eq) a b = refl
of_binary (binary.Op between.NotEq) a b = refl
of_binary (binary.Op between.In) a b = refl
of_binary (binary.Op between.Contains) a b = refl
of_binary (binary.Op between.ContainsAll) a b = refl
of_binary (binary.Op between.ContainsAny) a b = refl
of_binary (binary.Op between.GetTag) a b = refl
of_binary (binary.Op between.HasTag) a b = refl
of_binary (binary.IsIn entity_type) a b = refl

pub of_nary : (op : NaryOp) (a : Value) (bs : List Value) → slots_of (nary_call op a (values bs)) ≡ slots_of a ++ slots_of_all (values bs)
unfolding slots_of
of_nary nary.Or a bs = refl
of_nary nary.And a bs = refl
of_nary nary.Mul a bs = refl

pub of_list : (call : ListCall) (bs : List Value) → slots_of (list_call call (values bs)) ≡ slots_of_all (values bs)
unfolding slots_of
of_list list.Set bs = refl
of_list (list.Extension function) bs = refl

-- ---- rows

pub of_row : (xs : List Expr) → slots_of_all (values (map expr_meaning xs)) ≡ slots_in_row slots_in xs
unfolding slots_of_all slots_in
of_row [] = refl
of_row (x ∷ xs) = ap (λ z. slots_of (expr_meaning x) ++ z) (of_row xs)

pub of_terms : (xs : List (AddOp × Expr)) → slots_of_terms (terms (map (λ t. (t.0, expr_meaning t.1)) xs)) ≡ slots_in_row term_slots xs
unfolding slots_of_terms slots_in
of_terms [] = refl
of_terms (x ∷ xs) = ap (λ z. slots_of (expr_meaning x.1) ++ z) (of_terms xs)

pub of_fields : (xs : List (Text × Expr)) → slots_of_fields (fields (map (λ t. (t.0, expr_meaning t.1)) xs)) ≡ slots_in_row pair_slots xs
unfolding slots_of_fields slots_in
of_fields [] = refl
of_fields (x ∷ xs) = ap (λ z. slots_of (expr_meaning x.1) ++ z) (of_fields xs)

-- ---- nodes

pub at_expr : (e : Expr) → slots_in e ≡ slots_of_kind e.kind e.place.place
unfolding slots_in slots_of_kind expr_meaning kind_meaning
at_expr e = ap slots_of (fold_out-Expr AtPlace Value (kind_call AtPlace) expr_call e)

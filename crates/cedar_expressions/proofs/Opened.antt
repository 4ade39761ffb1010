-- A value opens to the one call that makes it, so calls of different parts differ.
use Rattle.std.proofs.Common.{◌≡◌, ℕ, List, [], ◌∷◌, None, refl, sym, ap, ◌∙◌}
use Rattle.cedar_expressions.specs.declared.operators.AddOp.{AddOp}
use Rattle.cedar_expressions.specs.declared.operators.UnaryOp.TheVariants as operator
use Rattle.cedar_expressions.specs.declared.expr.UnaryCall.TheVariants as unary
use Rattle.cedar_expressions.specs.declared.expr.BinaryOp.TheVariants as between
use Rattle.cedar_expressions.specs.declared.expr.BinaryCall.TheVariants as binary
use Rattle.cedar_expressions.specs.declared.expr.NaryOp.TheVariants as nary
use Rattle.cedar_expressions.specs.declared.expr.ListCall.TheVariants as list
use Rattle.cedar_expressions.specs.declared.expr.ExprKind.TheOpen.{ExprKind-F, Expr-F}
use Rattle.cedar_expressions.specs.Meaning.{kind_call}
use Rattle.cedar_expressions.specs.Value as v
use Rattle.cedar_expressions.specs.Value.{Value, Values, values, Terms, terms, Fields, fields}

abbrev as_list : Values → List Value
as_list v.none = []
as_list (v.more x xs) = x ∷ as_list xs

abbrev as_terms : Terms → List (AddOp × Value)
as_terms v.no_terms = []
as_terms (v.term op x xs) = (op, x) ∷ as_terms xs

abbrev as_pairs : Fields → List (List ℕ × Value)
as_pairs v.no_fields = []
as_pairs (v.field key x xs) = (key, x) ∷ as_pairs xs

list_is : (xs : List Value) → as_list (values xs) ≡ xs
list_is [] = refl
list_is (x ∷ xs) = ap (λ ys. x ∷ ys) (list_is xs)

terms_is : (xs : List (AddOp × Value)) → as_terms (terms xs) ≡ xs
terms_is [] = refl
terms_is (x ∷ xs) = ap (λ ys. x ∷ ys) (terms_is xs)

pairs_is : (xs : List (List ℕ × Value)) → as_pairs (fields xs) ≡ xs
pairs_is [] = refl
pairs_is (x ∷ xs) = ap (λ ys. x ∷ ys) (pairs_is xs)

abbrev pub Layer : Type 0
Layer = ExprKind-F Value Value

-- a call of parts whose slots stand nowhere
abbrev pub free_call : Layer → Value
free_call layer = kind_call Value layer None

abbrev pub free_expr : Expr-F Value Value → Value
free_expr e = e.kind

abbrev opened : Value → Layer
opened (v.val l) = ExprKind-F.Val l
opened (v.var x) = ExprKind-F.Var x
opened (v.slot s) = ExprKind-F.Slot s.id
opened (v.ite a b c) = ExprKind-F.Ite (a, b, c)
opened (v.not a) = ExprKind-F.Unary (unary.Op operator.Not) a
opened (v.neg a) = ExprKind-F.Unary (unary.Op operator.Neg) a
opened (v.and a b) = ExprKind-F.Binary (binary.Op between.And) (a, b)
opened (v.or_nary a rest) = ExprKind-F.Nary nary.Or a (as_list rest)
opened (v.and_naryl a rest) = ExprKind-F.Nary nary.And a (as_list rest)
opened (v.add_nary a rest) = ExprKind-F.Sum a (as_terms rest)
opened (v.mul_nary a rest) = ExprKind-F.Nary nary.Mul a (as_list rest)
opened (v.less a b) = ExprKind-F.Binary (binary.Op between.Less) (a, b)
opened (v.lesseq a b) = ExprKind-F.Binary (binary.Op between.LessEq) (a, b)
opened (v.greater a b) = ExprKind-F.Binary (binary.Op between.Greater) (a, b)
opened (v.greatereq a b) = ExprKind-F.Binary (binary.Op between.GreaterEq) (a, b)
opened (v.is_eq a b) = ExprKind-F.Binary (binary.Op between.Eq) (a, b)
opened (v.noteq a b) = ExprKind-F.Binary (binary.Op between.NotEq) (a, b)
opened (v.is_in a b) = ExprKind-F.Binary (binary.Op between.In) (a, b)
opened (v.like a pattern) = ExprKind-F.Unary (unary.Like pattern) a
opened (v.is_entity_type a t) = ExprKind-F.Unary (unary.Is t) a
opened (v.is_in_entity_type a t b) = ExprKind-F.Binary (binary.IsIn t) (a, b)
opened (v.extended_has_attr a first rest) = ExprKind-F.Unary (unary.ExtendedHasAttr first rest) a
opened (v.get_attr a attr) = ExprKind-F.Unary (unary.GetAttr attr) a
opened (v.contains a b) = ExprKind-F.Binary (binary.Op between.Contains) (a, b)
opened (v.contains_all a b) = ExprKind-F.Binary (binary.Op between.ContainsAll) (a, b)
opened (v.contains_any a b) = ExprKind-F.Binary (binary.Op between.ContainsAny) (a, b)
opened (v.is_empty a) = ExprKind-F.Unary unary.IsEmpty a
opened (v.get_tag a b) = ExprKind-F.Binary (binary.Op between.GetTag) (a, b)
opened (v.has_tag a b) = ExprKind-F.Binary (binary.Op between.HasTag) (a, b)
opened (v.call_extension_fn function items) = ExprKind-F.List (list.Extension function) (as_list items)
opened (v.set items) = ExprKind-F.List list.Set (as_list items)
opened (v.«record» pairs) = ExprKind-F.Record (as_pairs pairs)

opens : (layer : Layer) → opened (free_call layer) ≡ layer
opens (ExprKind-F.Val l) = refl
opens (ExprKind-F.Var x) = refl
opens (ExprKind-F.Slot s) = refl
opens (ExprKind-F.Ite parts) = refl
opens (ExprKind-F.Unary (unary.Op operator.Not) a) = refl
opens (ExprKind-F.Unary (unary.Op operator.Neg) a) = refl
opens (ExprKind-F.Unary unary.IsEmpty a) = refl
opens (ExprKind-F.Unary (unary.Like pattern) a) = refl
opens (ExprKind-F.Unary (unary.Is t) a) = refl
opens (ExprKind-F.Unary (unary.GetAttr attr) a) = refl
opens (ExprKind-F.Unary (unary.ExtendedHasAttr first rest) a) = refl
opens (ExprKind-F.Binary (binary.Op between.And) parts) = refl
opens (ExprKind-F.Binary (binary.Op between.Less) parts) = refl
opens (ExprKind-F.Binary (binary.Op between.LessEq) parts) = refl
opens (ExprKind-F.Binary (binary.Op between.Greater) parts) = refl
opens (ExprKind-F.Binary (binary.Op between.GreaterEq) parts) = refl
opens (ExprKind-F.Binary (binary.Op between.Eq) parts) = refl
opens (ExprKind-F.Binary (binary.Op between.NotEq) parts) = refl
opens (ExprKind-F.Binary (binary.Op between.In) parts) = refl
opens (ExprKind-F.Binary (binary.Op between.Contains) parts) = refl
opens (ExprKind-F.Binary (binary.Op between.ContainsAll) parts) = refl
opens (ExprKind-F.Binary (binary.Op between.ContainsAny) parts) = refl
opens (ExprKind-F.Binary (binary.Op between.GetTag) parts) = refl
opens (ExprKind-F.Binary (binary.Op between.HasTag) parts) = refl
opens (ExprKind-F.Binary (binary.IsIn t) parts) = refl
opens (ExprKind-F.Nary nary.Or a rest) = ap (ExprKind-F.Nary nary.Or a) (list_is rest)
opens (ExprKind-F.Nary nary.And a rest) = ap (ExprKind-F.Nary nary.And a) (list_is rest)
opens (ExprKind-F.Nary nary.Mul a rest) = ap (ExprKind-F.Nary nary.Mul a) (list_is rest)
opens (ExprKind-F.Sum a rest) = ap (ExprKind-F.Sum a) (terms_is rest)
opens (ExprKind-F.List list.Set items) = ap (ExprKind-F.List list.Set) (list_is items)
opens (ExprKind-F.List (list.Extension function) items) = ap (ExprKind-F.List (list.Extension function)) (list_is items)
opens (ExprKind-F.Record pairs) = ap ExprKind-F.Record (pairs_is pairs)

pub same_layer : (x y : ExprKind-F Value Value) → free_call x ≡ free_call y → x ≡ y
same_layer x y e = sym (opens x) ∙ ap opened e ∙ opens y

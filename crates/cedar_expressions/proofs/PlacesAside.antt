-- What an expression means, places aside, is what its calls make of parts whose slots stand
-- nowhere.
use Rattle.std.proofs.Common.{◌≡◌, ℕ, List, [], ◌∷◌, Option, map, refl, ap, sym, ◌∙◌, subst}
use Rattle.cedar_expressions.specs.declared.operators.AddOp.{AddOp}
use Rattle.cedar_expressions.specs.declared.operators.UnaryOp.TheVariants as operator
use Rattle.cedar_expressions.specs.declared.place.Place.{Place}
use Rattle.cedar_expressions.specs.declared.expr.UnaryCall.{UnaryCall}
use Rattle.cedar_expressions.specs.declared.expr.UnaryCall.TheVariants as unary
use Rattle.cedar_expressions.specs.declared.expr.BinaryCall.{BinaryCall}
use Rattle.cedar_expressions.specs.declared.expr.BinaryCall.TheVariants as binary
use Rattle.cedar_expressions.specs.declared.expr.BinaryOp.TheVariants as between
use Rattle.cedar_expressions.specs.declared.expr.NaryOp.{NaryOp}
use Rattle.cedar_expressions.specs.declared.expr.NaryOp.TheVariants as nary
use Rattle.cedar_expressions.specs.declared.expr.ListCall.{ListCall}
use Rattle.cedar_expressions.specs.declared.expr.ListCall.TheVariants as list
use Rattle.cedar_expressions.specs.declared.expr.Expr.{Expr}
use Rattle.cedar_expressions.specs.declared.expr.ExprKind.{ExprKind}
use Rattle.cedar_expressions.specs.declared.expr.ExprKind.TheOpen.{ExprKind-F, Expr-F}
use Rattle.cedar_expressions.specs.declared.expr.ExprKind.TheViews.{roll-ExprKind, roll-Expr}
use Rattle.cedar_expressions.specs.declared.expr.ExprKind.TheFolds.{map-ExprKind, map-Expr, fold-Expr, fold-ExprKind, fold_out-Expr, fold-roll-ExprKind, ind-Expr}
use Rattle.cedar_expressions.specs.Meaning.{AtPlace, kind_call, expr_call, unary_call, binary_call, nary_call, list_call, expr_meaning, unplaced}
use Rattle.cedar_expressions.specs.Value as v
use Rattle.cedar_expressions.specs.Value.{Value, values, terms, fields}
use Rattle.cedar_expressions.specs.WithoutPlaces.{without_places, all_without_places, terms_without_places, fields_without_places}
use Rattle.cedar_expressions.proofs.Opened.{free_call, free_expr}

abbrev meaning : Expr → Value
meaning = fold-Expr AtPlace Value (kind_call AtPlace) expr_call

abbrev kind_meaning : ExprKind → Option Place → Value
kind_meaning = fold-ExprKind AtPlace Value (kind_call AtPlace) expr_call

abbrev free : Expr → Value
free = fold-Expr Value Value free_call free_expr

abbrev free_kind : ExprKind → Value
free_kind = fold-ExprKind Value Value free_call free_expr

abbrev Holds : Expr → Type 0
Holds e = without_places (meaning e) ≡ free e

abbrev KindHolds : ExprKind → Type 0
KindHolds k = (place : Option Place) → without_places (kind_meaning k place) ≡ free_kind k

abbrev Known : Type 0
Known = (e : Expr) × Holds e

abbrev KnownKind : Type 0
KnownKind = (k : ExprKind) × KindHolds k

-- ---- calls

of_unary : (call : UnaryCall) (a : Value) → without_places (unary_call call a) ≡ unary_call call (without_places a)
unfolding without_places
of_unary (unary.Op operator.Not) a = refl
of_unary (unary.Op operator.Neg) a = refl
of_unary unary.IsEmpty a = refl
of_unary (unary.Like pattern) a = refl
of_unary (unary.Is entity_type) a = refl
of_unary (unary.GetAttr attr) a = refl
of_unary (unary.ExtendedHasAttr first rest) a = refl

of_binary : (call : BinaryCall) (a b : Value) → without_places (binary_call call a b) ≡ binary_call call (without_places a) (without_places b)
unfolding without_places
of_binary (binary.Op between.And) a b = refl
of_binary (binary.Op between.Less) a b = refl
of_binary (binary.Op between.LessEq) a b = refl
of_binary (binary.Op between.Greater) a b = refl
of_binary (binary.Op between.GreaterEq) a b = refl
of_binary (binary.Op between.Eq) a b = refl
of_binary (binary.Op between.NotEq) a b = refl
of_binary (binary.Op between.In) a b = refl
of_binary (binary.Op between.Contains) a b = refl
of_binary (binary.Op between.ContainsAll) a b = refl
of_binary (binary.Op between.ContainsAny) a b = refl
of_binary (binary.Op between.GetTag) a b = refl
of_binary (binary.Op between.HasTag) a b = refl
of_binary (binary.IsIn entity_type) a b = refl

of_nary : (op : NaryOp) (a : Value) (bs : List Value) → without_places (nary_call op a (values bs)) ≡ nary_call op (without_places a) (all_without_places (values bs))
unfolding without_places
of_nary nary.Or a bs = refl
of_nary nary.And a bs = refl
of_nary nary.Mul a bs = refl

of_list : (call : ListCall) (bs : List Value) → without_places (list_call call (values bs)) ≡ list_call call (all_without_places (values bs))
unfolding without_places
of_list list.Set bs = refl
of_list (list.Extension function) bs = refl

-- ---- rows

abbrev known : Known → Expr
known p = p.0

abbrev known_term : AddOp × Known → AddOp × Expr
known_term t = (t.0, t.1.0)

abbrev known_pair : List ℕ × Known → List ℕ × Expr
known_pair t = (t.0, t.1.0)

of_row : (xs : List Known) → all_without_places (values (map meaning (map known xs))) ≡ values (map free (map known xs))
unfolding all_without_places
of_row [] = refl
of_row (x ∷ xs) = λ i. v.more (x.1 i) (of_row xs i)

of_terms : (xs : List (AddOp × Known)) → terms_without_places (terms (map (λ t. (t.0, meaning t.1)) (map known_term xs))) ≡ terms (map (λ t. (t.0, free t.1)) (map known_term xs))
unfolding terms_without_places
of_terms [] = refl
of_terms (x ∷ xs) = λ i. v.term x.0 (x.1.1 i) (of_terms xs i)

of_fields : (xs : List (List ℕ × Known)) → fields_without_places (fields (map (λ t. (t.0, meaning t.1)) (map known_pair xs))) ≡ fields (map (λ t. (t.0, free t.1)) (map known_pair xs))
unfolding fields_without_places
of_fields [] = refl
of_fields (x ∷ xs) = λ i. v.field x.0 (x.1.1 i) (of_fields xs i)

-- ---- nodes

abbrev Shows : Option Place → ExprKind-F ExprKind Expr → Type 0
Shows place x =
    without_places (kind_call AtPlace (map-ExprKind ExprKind Expr AtPlace Value kind_meaning meaning x) place)
    ≡ free_call (map-ExprKind ExprKind Expr Value Value free_kind free x)

sides : (place : Option Place) (y : ExprKind-F KnownKind Known) → Shows place (map-ExprKind KnownKind Known ExprKind Expr (λ p. p.0) (λ p. p.0) y)
unfolding without_places
sides place (ExprKind-F.Val l) = refl
sides place (ExprKind-F.Var x) = refl
sides place (ExprKind-F.Slot s) = refl
sides place (ExprKind-F.Ite p) = λ i. v.ite (p.0.1 i) (p.1.1 i) (p.2.1 i)
sides place (ExprKind-F.Unary call a) = of_unary call (meaning a.0) ∙ ap (unary_call call) a.1
sides place (ExprKind-F.Binary call p) = of_binary call (meaning p.0.0) (meaning p.1.0) ∙ (λ i. binary_call call (p.0.1 i) (p.1.1 i))
sides place (ExprKind-F.Nary op a rest) = of_nary op (meaning a.0) (map meaning (map known rest)) ∙ (λ i. nary_call op (a.1 i) (of_row rest i))
sides place (ExprKind-F.Sum a rest) = λ i. v.add_nary (a.1 i) (of_terms rest i)
sides place (ExprKind-F.List call items) = of_list call (map meaning (map known items)) ∙ ap (list_call call) (of_row items)
sides place (ExprKind-F.Record pairs) = ap v.«record» (of_fields pairs)

kind_step : (x : ExprKind-F ExprKind Expr) (y : ExprKind-F KnownKind Known) → map-ExprKind KnownKind Known ExprKind Expr (λ p. p.0) (λ p. p.0) y ≡ x → KindHolds (roll-ExprKind x)
kind_step x y is place =
    ap (λ (h : Option Place → Value). without_places (h place)) (fold-roll-ExprKind AtPlace Value (kind_call AtPlace) expr_call x)
    ∙ subst (Shows place) is (sides place y)
    ∙ sym (fold-roll-ExprKind Value Value free_call free_expr x)

expr_step : (x : Expr-F ExprKind Expr) (y : Expr-F KnownKind Known) → map-Expr KnownKind Known ExprKind Expr (λ p. p.0) (λ p. p.0) y ≡ x → Holds (roll-Expr x)
expr_step x y is =
    let at = subst (λ (z : Expr-F ExprKind Expr). KindHolds z.kind) is y.kind.1 in
    ap without_places (fold_out-Expr AtPlace Value (kind_call AtPlace) expr_call (roll-Expr x)) ∙ at x.place.place ∙ sym (fold_out-Expr Value Value free_call free_expr (roll-Expr x))

pub unplaced_is : (e : Expr) → unplaced e ≡ fold-Expr Value Value free_call free_expr e
unfolding unplaced expr_meaning
unplaced_is = ind-Expr KindHolds Holds kind_step expr_step

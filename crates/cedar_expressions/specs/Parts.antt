-- The parts of an expression, from the left, and all expressions in it.
use Rattle.std.specs.Prelude.{ℕ, suc, List, [], ◌∷◌, ◌++◌, map}
use Rattle.std.specs.List.{sum_by}
use Rattle.cedar_expressions.specs.declared.expr.Expr.{Expr}
use Rattle.cedar_expressions.specs.declared.expr.ExprKind.{ExprKind}
use Rattle.cedar_expressions.specs.declared.expr.ExprKind.TheOpen.{ExprKind-F, Expr-F}
use Rattle.cedar_expressions.specs.declared.expr.ExprKind.TheViews.{out-ExprKind}
use Rattle.cedar_expressions.specs.declared.expr.ExprKind.TheFolds.{fold-Expr}

-- what stands in the places of the parts of a kind, from the left
abbrev pub form_parts : {K E : Type 0} → ExprKind-F K E → List E
form_parts (ExprKind-F.Val literal) = []
form_parts (ExprKind-F.Var x) = []
form_parts (ExprKind-F.Slot slot) = []
form_parts (ExprKind-F.Ite parts) = parts.0 ∷ parts.1 ∷ parts.2 ∷ []
form_parts (ExprKind-F.Unary call a) = a ∷ []
form_parts (ExprKind-F.Binary call parts) = parts.0 ∷ parts.1 ∷ []
form_parts (ExprKind-F.Nary op a rest) = a ∷ rest
form_parts (ExprKind-F.Sum a rest) = a ∷ map (λ t. t.1) rest
form_parts (ExprKind-F.List call items) = items
form_parts (ExprKind-F.Record pairs) = map (λ p. p.1) pairs

abbrev pub kind_parts : ExprKind → List Expr
kind_parts kind = form_parts (out-ExprKind kind)

abbrev pub parts : Expr → List Expr
parts e = kind_parts e.kind

-- how many expressions stand in one, itself among them
abbrev pub size_step : Expr-F (List ℕ) ℕ → ℕ
size_step e = suc (sum_by (λ n. n) e.kind)

unfoldable pub size : Expr → ℕ
size = fold-Expr (List ℕ) ℕ form_parts size_step

-- what is listed of an expression, once it is known itself
abbrev pub Listing : Type 0
Listing = Expr → List Expr

-- the lists of expressions one behind another, each made for its own
abbrev pub listed : List Listing → List Expr → List Expr
listed [] es = []
listed (f ∷ fs) [] = []
listed (f ∷ fs) (e ∷ es) = f e ++ listed fs es

abbrev pub listing_step : Expr-F (List Listing) Listing → Listing
listing_step e self = self ∷ listed e.kind (parts self)

-- an expression and all in it: it stands before those of its parts, which stand from the left
unfoldable pub subexpressions : Expr → List Expr
subexpressions e = fold-Expr (List Listing) Listing form_parts listing_step e e

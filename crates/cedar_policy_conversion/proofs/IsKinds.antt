-- Which expressions `is` makes, by their kinds.
use Rattle.std.proofs.Common.{◌≡◌, Bool, false, List, refl, ap, sym, ◌∙◌}
use Rattle.cedar_expressions.specs.declared.operators.AddOp.{AddOp}
use Rattle.cedar_expressions.specs.declared.operators.UnaryOp.TheVariants as operator
use Rattle.cedar_expressions.specs.declared.text.Text.{Text}
use Rattle.cedar_expressions.specs.declared.atoms.Literal.{Literal}
use Rattle.cedar_expressions.specs.declared.atoms.Var.{Var}
use Rattle.cedar_expressions.specs.declared.atoms.SlotId.{SlotId}
use Rattle.cedar_expressions.specs.declared.expr.Expr.{Expr}
use Rattle.cedar_expressions.specs.declared.expr.UnaryCall.{UnaryCall}
use Rattle.cedar_expressions.specs.declared.expr.UnaryCall.TheVariants as unary
use Rattle.cedar_expressions.specs.declared.expr.BinaryOp.TheVariants as between
use Rattle.cedar_expressions.specs.declared.expr.BinaryCall.{BinaryCall}
use Rattle.cedar_expressions.specs.declared.expr.BinaryCall.TheVariants as binary
use Rattle.cedar_expressions.specs.declared.expr.NaryOp.{NaryOp}
use Rattle.cedar_expressions.specs.declared.expr.NaryOp.TheVariants as nary
use Rattle.cedar_expressions.specs.declared.expr.ListCall.{ListCall}
use Rattle.cedar_expressions.specs.declared.expr.ListCall.TheVariants as list
use Rattle.cedar_expressions.specs.declared.expr.ExprKind.{ExprKind}
use Rattle.cedar_expressions.specs.declared.expr.ExprKind.TheOpen.{ExprKind-F}
use Rattle.cedar_expressions.specs.declared.expr.ExprKind.TheFolds.{fold-ExprKind, fold_out-Expr, fold-roll-ExprKind}
use Rattle.cedar_expressions.specs.declared.expr.ExprKind.TheVariants as kind
use Rattle.cedar_expressions.specs.Meaning.{AtPlace, kind_call, expr_call, unary_call, binary_call, nary_call, list_call, expr_meaning}
use Rattle.cedar_expressions.specs.Value.{Value, Values}
use Rattle.cedar_policy_conversion.specs.Scope.{made_by_is}
use Rattle.cedar_policy_conversion.specs.machines.PolicyViews.{is_call}

-- what a kind means
abbrev meaning : ExprKind → AtPlace
meaning k = fold-ExprKind AtPlace Value (kind_call AtPlace) expr_call k

by_kind : (e : Expr) → expr_meaning e ≡ meaning e.kind e.place.place
unfolding expr_meaning
by_kind e = fold_out-Expr AtPlace Value (kind_call AtPlace) expr_call e

-- whether `is` makes a kind, and so an expression of it
abbrev IsMade : Expr → Bool → Type 0
IsMade e b = b ≡ made_by_is (expr_meaning e)

at_kind : (e : Expr) (k : ExprKind) (w : AtPlace) (b : Bool) → e.kind ≡ k → meaning k ≡ w → made_by_is (w e.place.place) ≡ b → IsMade e b
at_kind e k w b h g i = sym (ap made_by_is (by_kind e ∙ ap (λ (m : AtPlace). m e.place.place) (ap meaning h ∙ g)) ∙ i)

pub made_val : (e : Expr) (l : Literal) → e.kind ≡ kind.Val l → IsMade e false
made_val e l h = at_kind e (kind.Val l) _ false h (ap meaning (sym (kind.rolls-Val l)) ∙ fold-roll-ExprKind AtPlace Value (kind_call AtPlace) expr_call (ExprKind-F.Val l)) refl

pub made_var : (e : Expr) (x : Var) → e.kind ≡ kind.Var x → IsMade e false
made_var e x h = at_kind e (kind.Var x) _ false h (ap meaning (sym (kind.rolls-Var x)) ∙ fold-roll-ExprKind AtPlace Value (kind_call AtPlace) expr_call (ExprKind-F.Var x)) refl

pub made_slot : (e : Expr) (x : SlotId) → e.kind ≡ kind.Slot x → IsMade e false
made_slot e x h = at_kind e (kind.Slot x) _ false h (ap meaning (sym (kind.rolls-Slot x)) ∙ fold-roll-ExprKind AtPlace Value (kind_call AtPlace) expr_call (ExprKind-F.Slot x)) refl

pub made_ite : (e : Expr) (parts : Expr × Expr × Expr) → e.kind ≡ kind.Ite parts → IsMade e false
made_ite e parts h = at_kind e (kind.Ite parts) _ false h (ap meaning (sym (kind.rolls-Ite parts)) ∙ fold-roll-ExprKind AtPlace Value (kind_call AtPlace) expr_call (ExprKind-F.Ite parts)) refl

made_by_call : (call : UnaryCall) (a : Value) → made_by_is (unary_call call a) ≡ is_call call
made_by_call (unary.Op operator.Not) a = refl
made_by_call (unary.Op operator.Neg) a = refl
made_by_call unary.IsEmpty a = refl
made_by_call (unary.Like pattern) a = refl
made_by_call (unary.Is entity_type) a = refl
made_by_call (unary.GetAttr attr) a = refl
made_by_call (unary.ExtendedHasAttr first rest) a = refl

pub made_unary : (e : Expr) (call : UnaryCall) (a : Expr) → e.kind ≡ kind.Unary call a → IsMade e (is_call call)
made_unary e call a h = at_kind e (kind.Unary call a) _ (is_call call) h (ap meaning (sym (kind.rolls-Unary call a)) ∙ fold-roll-ExprKind AtPlace Value (kind_call AtPlace) expr_call (ExprKind-F.Unary call a)) (made_by_call call _)

made_by_two : (call : BinaryCall) (a b : Value) → made_by_is (binary_call call a b) ≡ false
made_by_two (binary.Op between.And) a b = refl
made_by_two (binary.Op between.Less) a b = refl
made_by_two (binary.Op between.LessEq) a b = refl
made_by_two (binary.Op between.Greater) a b = refl
made_by_two (binary.Op between.GreaterEq) a b = refl
made_by_two (binary.Op between.Eq) a b = refl
made_by_two (binary.Op between.NotEq) a b = refl
made_by_two (binary.Op between.In) a b = refl
made_by_two (binary.Op between.Contains) a b = refl
made_by_two (binary.Op between.ContainsAll) a b = refl
made_by_two (binary.Op between.ContainsAny) a b = refl
made_by_two (binary.Op between.GetTag) a b = refl
made_by_two (binary.Op between.HasTag) a b = refl
made_by_two (binary.IsIn entity_type) a b = refl

pub made_binary : (e : Expr) (call : BinaryCall) (parts : Expr × Expr) → e.kind ≡ kind.Binary call parts → IsMade e false
made_binary e call parts h = at_kind e (kind.Binary call parts) _ false h (ap meaning (sym (kind.rolls-Binary call parts)) ∙ fold-roll-ExprKind AtPlace Value (kind_call AtPlace) expr_call (ExprKind-F.Binary call parts)) (made_by_two call _ _)

made_by_many : (op : NaryOp) (a : Value) (bs : Values) → made_by_is (nary_call op a bs) ≡ false
made_by_many nary.Or a bs = refl
made_by_many nary.And a bs = refl
made_by_many nary.Mul a bs = refl

pub made_nary : (e : Expr) (op : NaryOp) (a : Expr) (rest : List Expr) → e.kind ≡ kind.Nary op a rest → IsMade e false
made_nary e op a rest h = at_kind e (kind.Nary op a rest) _ false h (ap meaning (sym (kind.rolls-Nary op a rest)) ∙ fold-roll-ExprKind AtPlace Value (kind_call AtPlace) expr_call (ExprKind-F.Nary op a rest)) (made_by_many op _ _)

pub made_sum : (e : Expr) (a : Expr) (rest : List (AddOp × Expr)) → e.kind ≡ kind.Sum a rest → IsMade e false
made_sum e a rest h = at_kind e (kind.Sum a rest) _ false h (ap meaning (sym (kind.rolls-Sum a rest)) ∙ fold-roll-ExprKind AtPlace Value (kind_call AtPlace) expr_call (ExprKind-F.Sum a rest)) refl

made_by_list : (call : ListCall) (bs : Values) → made_by_is (list_call call bs) ≡ false
made_by_list list.Set bs = refl
made_by_list (list.Extension name) bs = refl

pub made_list : (e : Expr) (call : ListCall) (items : List Expr) → e.kind ≡ kind.List call items → IsMade e false
made_list e call items h = at_kind e (kind.List call items) _ false h (ap meaning (sym (kind.rolls-List call items)) ∙ fold-roll-ExprKind AtPlace Value (kind_call AtPlace) expr_call (ExprKind-F.List call items)) (made_by_list call _)

pub made_record : (e : Expr) (pairs : List (Text × Expr)) → e.kind ≡ kind.Record pairs → IsMade e false
made_record e pairs h = at_kind e (kind.Record pairs) _ false h (ap meaning (sym (kind.rolls-Record pairs)) ∙ fold-roll-ExprKind AtPlace Value (kind_call AtPlace) expr_call (ExprKind-F.Record pairs)) refl

-- What an expression means, by its kind.
use Rattle.std.proofs.Common.{◌≡◌, ℕ, List, Option, ap, sym, ◌∙◌, map}
use Rattle.cedar_expressions.specs.declared.operators.AddOp.{AddOp}
use Rattle.cedar_expressions.specs.declared.place.Place.{Place}
use Rattle.cedar_expressions.specs.declared.atoms.Literal.{Literal}
use Rattle.cedar_expressions.specs.declared.atoms.Var.{Var}
use Rattle.cedar_expressions.specs.declared.atoms.SlotId.{SlotId}
use Rattle.cedar_expressions.specs.declared.expr.Expr.{Expr}
use Rattle.cedar_expressions.specs.declared.expr.UnaryCall.{UnaryCall}
use Rattle.cedar_expressions.specs.declared.expr.BinaryCall.{BinaryCall}
use Rattle.cedar_expressions.specs.declared.expr.NaryOp.{NaryOp}
use Rattle.cedar_expressions.specs.declared.expr.ListCall.{ListCall}
use Rattle.cedar_expressions.specs.declared.expr.ExprKind.{ExprKind}
use Rattle.cedar_expressions.specs.declared.expr.ExprKind.TheOpen.{ExprKind-F}
use Rattle.cedar_expressions.specs.declared.expr.ExprKind.TheFolds.{fold_out-Expr, fold-roll-ExprKind}
use Rattle.cedar_expressions.specs.declared.expr.ExprKind.TheVariants as kind
use Rattle.cedar_expressions.specs.Meaning.{AtPlace, kind_call, expr_call, unary_call, binary_call, nary_call, list_call, expr_meaning, kind_meaning}
use Rattle.cedar_expressions.specs.Value as v
use Rattle.cedar_json_writer.specs.machines.Pending.{term_value, field_value}
use Rattle.cedar_expressions.specs.Value.{Value, values, terms, fields}

at_kind : (e : Expr) (k j : ExprKind) → k ≡ e.kind → k ≡ j → expr_meaning e ≡ kind_meaning j e.place.place
unfolding expr_meaning kind_meaning
at_kind e k j same is =
    fold_out-Expr AtPlace Value (kind_call AtPlace) expr_call e
    ∙ ap (λ (i : ExprKind). kind_meaning i e.place.place) (sym same ∙ is)

rolled : {f g : Option Place → Value} (place : Option Place) → f ≡ g → f place ≡ g place
rolled place e = ap (λ (h : Option Place → Value). h place) e

module _ (e : Expr) (k : ExprKind) (same : k ≡ e.kind) where
  pub at_val : (l : Literal) → k ≡ kind.Val l → expr_meaning e ≡ v.val l
  unfolding expr_meaning kind_meaning
  at_val l is = at_kind e k (kind.Val l) same is ∙ rolled e.place.place (ap kind_meaning (sym (kind.rolls-Val l)) ∙ fold-roll-ExprKind AtPlace Value (kind_call AtPlace) expr_call (ExprKind-F.Val l))

  pub at_var : (x : Var) → k ≡ kind.Var x → expr_meaning e ≡ v.var x
  unfolding expr_meaning kind_meaning
  at_var x is = at_kind e k (kind.Var x) same is ∙ rolled e.place.place (ap kind_meaning (sym (kind.rolls-Var x)) ∙ fold-roll-ExprKind AtPlace Value (kind_call AtPlace) expr_call (ExprKind-F.Var x))

  pub at_slot : (x : SlotId) → k ≡ kind.Slot x → expr_meaning e ≡ v.slot (record { id = x; place = e.place.place })
  unfolding expr_meaning kind_meaning
  at_slot x is = at_kind e k (kind.Slot x) same is ∙ rolled e.place.place (ap kind_meaning (sym (kind.rolls-Slot x)) ∙ fold-roll-ExprKind AtPlace Value (kind_call AtPlace) expr_call (ExprKind-F.Slot x))

  pub at_ite : (parts : Expr × Expr × Expr) → k ≡ kind.Ite parts → expr_meaning e ≡ v.ite (expr_meaning parts.0) (expr_meaning parts.1) (expr_meaning parts.2)
  unfolding expr_meaning kind_meaning
  at_ite parts is = at_kind e k (kind.Ite parts) same is ∙ rolled e.place.place (ap kind_meaning (sym (kind.rolls-Ite parts)) ∙ fold-roll-ExprKind AtPlace Value (kind_call AtPlace) expr_call (ExprKind-F.Ite parts))

  pub at_unary : (call : UnaryCall) (a : Expr) → k ≡ kind.Unary call a → expr_meaning e ≡ unary_call call (expr_meaning a)
  unfolding expr_meaning kind_meaning
  at_unary call a is = at_kind e k (kind.Unary call a) same is ∙ rolled e.place.place (ap kind_meaning (sym (kind.rolls-Unary call a)) ∙ fold-roll-ExprKind AtPlace Value (kind_call AtPlace) expr_call (ExprKind-F.Unary call a))

  pub at_binary : (call : BinaryCall) (parts : Expr × Expr) → k ≡ kind.Binary call parts → expr_meaning e ≡ binary_call call (expr_meaning parts.0) (expr_meaning parts.1)
  unfolding expr_meaning kind_meaning
  at_binary call parts is = at_kind e k (kind.Binary call parts) same is ∙ rolled e.place.place (ap kind_meaning (sym (kind.rolls-Binary call parts)) ∙ fold-roll-ExprKind AtPlace Value (kind_call AtPlace) expr_call (ExprKind-F.Binary call parts))

  pub at_nary : (op : NaryOp) (a : Expr) (rest : List Expr) → k ≡ kind.Nary op a rest → expr_meaning e ≡ nary_call op (expr_meaning a) (values (map expr_meaning rest))
  unfolding expr_meaning kind_meaning
  at_nary op a rest is = at_kind e k (kind.Nary op a rest) same is ∙ rolled e.place.place (ap kind_meaning (sym (kind.rolls-Nary op a rest)) ∙ fold-roll-ExprKind AtPlace Value (kind_call AtPlace) expr_call (ExprKind-F.Nary op a rest))

  pub at_sum : (a : Expr) (rest : List (AddOp × Expr)) → k ≡ kind.Sum a rest → expr_meaning e ≡ v.add_nary (expr_meaning a) (terms (map term_value rest))
  unfolding expr_meaning kind_meaning
  at_sum a rest is = at_kind e k (kind.Sum a rest) same is ∙ rolled e.place.place (ap kind_meaning (sym (kind.rolls-Sum a rest)) ∙ fold-roll-ExprKind AtPlace Value (kind_call AtPlace) expr_call (ExprKind-F.Sum a rest))

  pub at_list : (call : ListCall) (items : List Expr) → k ≡ kind.List call items → expr_meaning e ≡ list_call call (values (map expr_meaning items))
  unfolding expr_meaning kind_meaning
  at_list call items is = at_kind e k (kind.List call items) same is ∙ rolled e.place.place (ap kind_meaning (sym (kind.rolls-List call items)) ∙ fold-roll-ExprKind AtPlace Value (kind_call AtPlace) expr_call (ExprKind-F.List call items))

  pub at_record : (pairs : List (List ℕ × Expr)) → k ≡ kind.Record pairs → expr_meaning e ≡ v.«record» (fields (map field_value pairs))
  unfolding expr_meaning kind_meaning
  at_record pairs is = at_kind e k (kind.Record pairs) same is ∙ rolled e.place.place (ap kind_meaning (sym (kind.rolls-Record pairs)) ∙ fold-roll-ExprKind AtPlace Value (kind_call AtPlace) expr_call (ExprKind-F.Record pairs))

-- The forks of each kind of expression, and its calls, from those of its parts.
use Rattle.std.proofs.Common.{ap, refl, sym, ◌≡◌, ◌∙◌, ◌+◌, ◌≤◌, ◌<◌, ℕ, suc, List, [], ◌∷◌, ◌++◌, map, arith}
use Rattle.std.specs.List.{fold, sum_by}
use Rattle.cedar_expressions.specs.declared.operators.AddOp.{AddOp}
use Rattle.cedar_expressions.specs.declared.text.Text.{Text}
use Rattle.cedar_expressions.specs.declared.atoms.Literal.{Literal}
use Rattle.cedar_expressions.specs.declared.atoms.Var.{Var}
use Rattle.cedar_expressions.specs.declared.atoms.SlotId.{SlotId}
use Rattle.cedar_expressions.specs.declared.expr.Expr.{Expr}
use Rattle.cedar_expressions.specs.declared.expr.UnaryCall.{UnaryCall}
use Rattle.cedar_expressions.specs.declared.expr.BinaryCall.{BinaryCall}
use Rattle.cedar_expressions.specs.declared.expr.NaryOp.{NaryOp}
use Rattle.cedar_expressions.specs.declared.expr.ListCall.{ListCall}
use Rattle.cedar_expressions.specs.declared.expr.ExprKind.{ExprKind}
use Rattle.cedar_expressions.specs.declared.expr.ExprKind.TheOpen.{ExprKind-F}
use Rattle.cedar_expressions.specs.declared.expr.ExprKind.TheViews.{roll-ExprKind}
use Rattle.cedar_expressions.specs.declared.expr.ExprKind.TheFolds.{map-ExprKind, fold_out-Expr, fold-roll-ExprKind}
use Rattle.cedar_expressions.specs.declared.expr.ExprKind.TheVariants as kind
use Rattle.cedar_expressions.specs.Forks.{fork_count, counted_kind, count, kind_count, forks, items_forks, terms_forks, pairs_forks, fork_forks}
use Rattle.cedar_expressions.specs.declared.release.Fork.{Fork}
use Rattle.cedar_expressions.specs.declared.release.Fork.TheVariants as fork

-- to count what a list was made of is to count the list
of_list_made : {A B : Type 0} (f : B → ℕ) (g : A → B) (xs : List A) (n : ℕ)
    → fold (λ a x. a + f x) n (map g xs) ≡ fold (λ a x. a + f (g x)) n xs
of_list_made f g [] n = refl
of_list_made f g (x ∷ xs) n = of_list_made f g xs (n + f (g x))

module _ (each : ℕ) where
  rolled : {k : ExprKind} (x : ExprKind-F ExprKind Expr) → k ≡ roll-ExprKind x → kind_count each k ≡ fork_count each (map-ExprKind ExprKind Expr ℕ ℕ (kind_count each) (count each) x)
  unfolding kind_count count
  rolled x e = ap (kind_count each) e ∙ fold-roll-ExprKind ℕ ℕ (fork_count each) counted_kind x

  pub of_expr : (e : Expr) → count each e ≡ kind_count each e.kind
  unfolding kind_count count
  of_expr e = fold_out-Expr ℕ ℕ (fork_count each) counted_kind e

  pub of_val : (l : Literal) → kind_count each (kind.Val l) ≡ 0
  of_val l = rolled (ExprKind-F.Val l) (sym (kind.rolls-Val l))

  pub of_var : (x : Var) → kind_count each (kind.Var x) ≡ 0
  of_var x = rolled (ExprKind-F.Var x) (sym (kind.rolls-Var x))

  pub of_slot : (s : SlotId) → kind_count each (kind.Slot s) ≡ 0
  of_slot s = rolled (ExprKind-F.Slot s) (sym (kind.rolls-Slot s))

  pub of_ite : (parts : Expr × Expr × Expr) → kind_count each (kind.Ite parts) ≡ suc (count each parts.0 + count each parts.1 + count each parts.2)
  of_ite parts = rolled (ExprKind-F.Ite parts) (sym (kind.rolls-Ite parts))

  pub of_unary : (call : UnaryCall) (a : Expr) → kind_count each (kind.Unary call a) ≡ each + count each a
  of_unary call a = rolled (ExprKind-F.Unary call a) (sym (kind.rolls-Unary call a))

  pub of_binary : (call : BinaryCall) (parts : Expr × Expr) → kind_count each (kind.Binary call parts) ≡ suc (count each parts.0 + count each parts.1)
  of_binary call parts = rolled (ExprKind-F.Binary call parts) (sym (kind.rolls-Binary call parts))

  pub of_nary : (op : NaryOp) (a : Expr) (rest : List Expr) → kind_count each (kind.Nary op a rest) ≡ suc (count each a + sum_by (count each) rest)
  of_nary op a rest = rolled (ExprKind-F.Nary op a rest) (sym (kind.rolls-Nary op a rest))
      ∙ ap (λ n. suc (count each a + n)) (of_list_made (λ n. n) (count each) rest 0)

  pub of_sum : (a : Expr) (rest : List (AddOp × Expr)) → kind_count each (kind.Sum a rest) ≡ suc (count each a + sum_by (λ t. count each t.1) rest)
  of_sum a rest = rolled (ExprKind-F.Sum a rest) (sym (kind.rolls-Sum a rest))
      ∙ ap (λ n. suc (count each a + n)) (of_list_made (λ t. t.1) (λ t. (t.0, count each t.1)) rest 0)

  pub of_list : (call : ListCall) (items : List Expr) → kind_count each (kind.List call items) ≡ suc (sum_by (count each) items)
  of_list call items = rolled (ExprKind-F.List call items) (sym (kind.rolls-List call items)) ∙ ap suc (of_list_made (λ n. n) (count each) items 0)

  pub of_record : (pairs : List (Text × Expr)) → kind_count each (kind.Record pairs) ≡ suc (sum_by (λ p. count each p.1) pairs)
  of_record pairs = rolled (ExprKind-F.Record pairs) (sym (kind.rolls-Record pairs)) ∙ ap suc (of_list_made (λ p. p.1) (λ p. (p.0, count each p.1)) pairs 0)

-- one element more at the end
last_of : {A : Type 0} (f : A → ℕ) (xs : List A) (x : A) (n : ℕ) → fold (λ a y. a + f y) n (xs ++ x ∷ []) ≡ fold (λ a y. a + f y) n xs + f x
last_of f [] x n = refl
last_of f (y ∷ xs) x n = last_of f xs x (n + f y)

pub last_item : (xs : List Expr) (x : Expr) → items_forks (xs ++ x ∷ []) ≡ items_forks xs + forks x
last_item xs x = last_of forks xs x 0

pub last_term : (xs : List (AddOp × Expr)) (x : AddOp × Expr) → terms_forks (xs ++ x ∷ []) ≡ terms_forks xs + forks x.1
last_term xs x = last_of (λ t. forks t.1) xs x 0

pub last_pair : (xs : List (Text × Expr)) (x : Text × Expr) → pairs_forks (xs ++ x ∷ []) ≡ pairs_forks xs + forks x.1
last_pair xs x = last_of (λ p. forks p.1) xs x 0

-- ---- steps down, over numbers: what there was in a list, what is left of it, and what was taken out

-- a part was taken out, and what is left waits with what waited
pub taken_out : (all old rest item part up after now : ℕ) → old ≡ rest + item → old ≤ all → part ≤ item → after ≤ suc rest + up → up ≡ now → 0 < part → (part + after ≤ suc all + now) × (part < suc all) × (after < suc all + now)
taken_out all old rest item part up after now e h p a u s = (omega (arith, e, h, p, a, u, s), omega (arith, e, h, p, a, u, s), omega (arith, e, h, p, a, u, s))

-- the same behind a first operand
pub taken_behind : (first all old rest item part up after now : ℕ) → old ≡ rest + item → old ≤ all → part ≤ item → after ≡ suc (first + rest) + up → up ≡ now → 0 < part → (part + after ≤ suc (first + all) + now) × (part < suc (first + all)) × (after < suc (first + all) + now)
taken_behind first all old rest item part up after now e h p a u s = (omega (arith, e, h, p, a, u, s), omega (arith, e, h, p, a, u, s), omega (arith, e, h, p, a, u, s))

-- nothing is left but a first operand
pub first_left : (first all part up now : ℕ) → part ≤ first → up ≡ now → (part + up ≤ suc (first + all) + now) × (part < suc (first + all)) × (up < suc (first + all) + now)
first_left first all part up now p u = (omega (arith, p, u), omega (arith, p, u), omega (arith, p, u))

-- nothing is left
pub none_left : (all up now : ℕ) → up ≡ now → (0 + up ≤ suc all + now) × (0 < suc all) × (up < suc all + now)
none_left all up now u = (omega (arith, u), omega (arith, u), omega (arith, u))

-- a fork is one
pub some_fork : (f : Fork) → 0 < fork_forks f
some_fork (fork.Three parts) = omega arith
some_fork (fork.Two parts) = omega arith
some_fork (fork.Operands first rest) = omega arith
some_fork (fork.Terms first rest) = omega arith
some_fork (fork.Items items) = omega arith
some_fork (fork.Pairs pairs) = omega arith

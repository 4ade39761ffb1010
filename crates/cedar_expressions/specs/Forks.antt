-- How many forks an expression has: how many of the expressions in it are calls of several parts,
-- or of a list. That is what is left to do while an expression is let go. No public clause cites
-- this module.
use Rattle.std.specs.Prelude.{ℕ, suc, ◌+◌, ◌≡◌, ◌<◌, ◌≤◌, Bool, true, false, List, Option, Some, None}
use Rattle.std.specs.List.{sum_by}
use Rattle.cedar_expressions.specs.declared.operators.AddOp.{AddOp}
use Rattle.cedar_expressions.specs.declared.text.Text.{Text}
use Rattle.cedar_expressions.specs.declared.expr.Expr.{Expr}
use Rattle.cedar_expressions.specs.declared.expr.ExprKind.{ExprKind}
use Rattle.cedar_expressions.specs.declared.expr.ExprKind.TheOpen.{ExprKind-F, Expr-F}
use Rattle.cedar_expressions.specs.declared.expr.ExprKind.TheFolds.{fold-Expr, fold-ExprKind}
use Rattle.cedar_expressions.specs.declared.release.Fork.{Fork}
use Rattle.cedar_expressions.specs.declared.release.Fork.TheVariants as fork
use Rattle.cedar_expressions.specs.declared.release.Rest.{Rest}
use Rattle.cedar_expressions.specs.declared.release.Rest.TheVariants as rest

-- one for each fork and `each` for each call of one part
abbrev pub fork_count : ℕ → ExprKind-F ℕ ℕ → ℕ
fork_count each (ExprKind-F.Val literal) = 0
fork_count each (ExprKind-F.Var x) = 0
fork_count each (ExprKind-F.Slot slot) = 0
fork_count each (ExprKind-F.Ite parts) = suc (parts.0 + parts.1 + parts.2)
fork_count each (ExprKind-F.Unary call a) = each + a
fork_count each (ExprKind-F.Binary call parts) = suc (parts.0 + parts.1)
fork_count each (ExprKind-F.Nary op a rest) = suc (a + sum_by (λ n. n) rest)
fork_count each (ExprKind-F.Sum a rest) = suc (a + sum_by (λ t. t.1) rest)
fork_count each (ExprKind-F.List call items) = suc (sum_by (λ n. n) items)
fork_count each (ExprKind-F.Record pairs) = suc (sum_by (λ p. p.1) pairs)

abbrev pub counted_kind : Expr-F ℕ ℕ → ℕ
counted_kind e = e.kind

unfoldable pub count : ℕ → Expr → ℕ
count each = fold-Expr ℕ ℕ (fork_count each) counted_kind

unfoldable pub kind_count : ℕ → ExprKind → ℕ
kind_count each = fold-ExprKind ℕ ℕ (fork_count each) counted_kind

abbrev pub forks : Expr → ℕ
forks = count 0

-- forks and calls of one part
abbrev pub calls : Expr → ℕ
calls = count 1

-- of the items of a list, of operands behind their operators, and of values behind their keys
abbrev pub items_forks : List Expr → ℕ
items_forks items = sum_by forks items

abbrev pub terms_forks : List (AddOp × Expr) → ℕ
terms_forks terms = sum_by (λ t. forks t.1) terms

abbrev pub pairs_forks : List (Text × Expr) → ℕ
pairs_forks pairs = sum_by (λ p. forks p.1) pairs

abbrev pub three_forks : Expr × Expr × Expr → ℕ
three_forks parts = forks parts.0 + forks parts.1 + forks parts.2

abbrev pub two_forks : Expr × Expr → ℕ
two_forks parts = forks parts.0 + forks parts.1

-- of a fork, with itself
abbrev pub fork_forks : Fork → ℕ
fork_forks (fork.Three parts) = suc (three_forks parts.value)
fork_forks (fork.Two parts) = suc (two_forks parts.value)
fork_forks (fork.Operands first rest) = suc (forks first.value + items_forks rest.items)
fork_forks (fork.Terms first rest) = suc (forks first.value + terms_forks rest.items)
fork_forks (fork.Items items) = suc (items_forks items.items)
fork_forks (fork.Pairs pairs) = suc (pairs_forks pairs.items)

abbrev pub waiting_forks : Option Fork → ℕ
waiting_forks None = 0
waiting_forks (Some fork) = fork_forks fork

-- whether something has no fork
abbrev pub StemOrForked : ℕ → Bool → Type 0
StemOrForked forks true = forks ≡ 0
StemOrForked forks false = 0 < forks

-- what is left of an expression behind its outermost call
abbrev pub IsRest : Expr → Rest → Type 0
IsRest e rest.Nothing = forks e ≡ 0
IsRest e (rest.Operand a) = (forks e ≡ forks a) × (calls e ≡ suc (calls a))
IsRest e (rest.Parts fork) = forks e ≡ fork_forks fork

-- One step down from what has so many forks, where `up` waits: nothing is added, what is looked at
-- next has less, and where nothing is, something went.
abbrev pub StepsDown : ℕ → Option Fork → Option Fork → Option Fork → Type 0
StepsDown forks up part after =
    (waiting_forks part + waiting_forks after ≤ forks + waiting_forks up)
    × (waiting_forks part < forks)
    × (part ≡ None → waiting_forks after < forks + waiting_forks up)

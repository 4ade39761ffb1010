use Rattle.std.proofs.Common.{◌+◌, suc, ap, sym, ◌∙◌}
use Rattle.cedar_expressions.specs.declared.expr.Expr.{Expr}
use Rattle.cedar_expressions.specs.Forks.{kind_count, forks, terms_forks, pairs_forks, fork_forks}
use Rattle.cedar_expressions.proofs.ForksAt.{of_expr, of_sum, of_record}
use Rattle.cedar_expressions.proofs.release.Fork.into_expr.Goals as goal

pub returns-in-Terms : goal.returns-in-Terms
returns-in-Terms c =
    of_expr 0 c.at-in-Terms.result
    ∙ ap (λ (e : Expr). kind_count 0 e.kind) c.at-in-Terms.ensures
    ∙ of_sum 0 c.from-first-in-Terms.result c.from-in-Terms.result
    ∙ (λ i. suc (forks (c.from-first-in-Terms.ensures i) + terms_forks (c.from-in-Terms.ensures i)))
    ∙ sym (ap fork_forks c.in-Terms.is)

pub returns-in-Pairs : goal.returns-in-Pairs
returns-in-Pairs c =
    of_expr 0 c.at-in-Pairs.result
    ∙ ap (λ (e : Expr). kind_count 0 e.kind) c.at-in-Pairs.ensures
    ∙ of_record 0 c.from-in-Pairs.result
    ∙ (λ i. suc (pairs_forks (c.from-in-Pairs.ensures i)))
    ∙ sym (ap fork_forks c.in-Pairs.is)

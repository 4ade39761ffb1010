use Rattle.std.proofs.Common.{◌≡◌, [], ◌∷◌, ◌++◌, List, refl, sym, ap, ◌∙◌, Bor}
use Rattle.std.specs.List.{flat_map}
use Rattle.cedar_expressions.specs.declared.expr.Expr.{Expr}
use Rattle.cedar_expressions.specs.Parts.{subexpressions}
use Rattle.cedar_expressions.specs.Walks.{shown}
use Rattle.cedar_expressions.proofs.PartsAt.{met_on}
use Rattle.cedar_expressions.proofs.expr.Expr.all_within.Goals as goal

shown_last : (all : List (Bor Expr)) (e : Bor Expr) → shown (all ++ e ∷ []) ≡ shown all ++ e.now ∷ []
shown_last [] e = refl
shown_last (x ∷ xs) e = ap (λ t. x.now ∷ t) (shown_last xs e)

pub loop-expr-preserved : goal.loop-expr-preserved
loop-expr-preserved c =
    met_on (shown c.loop-expr.all.items) (shown c.push-in-Some.new.self.items) (subexpressions c.args.self.now) c.in-Some.expr.now (shown c.pop.new.self) (shown c.push_parts.new.rest)
    (ap (λ r. shown c.loop-expr.all.items ++ flat_map subexpressions (shown r)) (sym c.in-Some.ensures) ∙ c.loop-expr.invariant)
    (ap shown c.in_ok-push-2.ensures.items ∙ shown_last c.loop-expr.all.items c.in-Some.expr)
    c.in_ok-push_parts.ensures

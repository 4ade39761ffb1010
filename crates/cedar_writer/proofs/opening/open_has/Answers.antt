use Rattle.std.proofs.Common.{[], ◌∷◌, ◌++◌, refl, sym, ap, ◌∙◌, subst, codes}
use Rattle.cedar_lexer.specs.declared.token.TokenKind.TheVariants as kind
use Rattle.cedar_expressions.specs.Meaning.{expr_meaning}
use Rattle.cedar_conversion.specs.strict.Strict as s
use Rattle.cedar_writer.specs.Fitness.{IsFitSought}
use Rattle.cedar_writer.specs.machines.Pending.{Todo, word, operand, sought}
use Rattle.cedar_writer.specs.machines.Todos.{todos_seen}
use Rattle.cedar_writer.proofs.opening.open_has.Goals as goal

pub returns-in-None : goal.returns-in-None
returns-in-None c = λ table. ((λ f. c.in-None.ensures (subst (λ id. IsFitSought id c.as_slice.result.now) (sym c.as_str.ensures) (subst (IsFitSought c.args.first.now) (sym c.as_slice.ensures) f))), refl)

pub returns-in_ok-put_all-in-Some : goal.returns-in_ok-put_all-in-Some
returns-in_ok-put_all-in-Some c = λ table. (
  c.in_ok-put_all-in-Some.ensures ∙ ap (λ (t : Todo). (operand s.sum (expr_meaning c.args.a.now) ∷ word kind.Has (codes "has") ∷ t ∷ []) ++ todos_seen c.args.todo.now)
      (c.in-Some.ensures.0 ∙ ap (λ id. sought id c.as_slice.result.now) c.as_str.ensures ∙ ap (sought c.args.first.now) c.as_slice.ensures),
  subst (IsFitSought c.args.first.now) c.as_slice.ensures (subst (λ id. IsFitSought id c.as_slice.result.now) c.as_str.ensures c.in-Some.ensures.1),
)

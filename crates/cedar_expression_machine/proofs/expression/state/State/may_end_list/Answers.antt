use Rattle.std.proofs.Common.{◌≡◌, ap, sym, ◌∙◌, List, [], false, refl}
use Rattle.cedar_grammar.specs.declared.reading.class.Closing.{Closing}
use Rattle.cedar_grammar.specs.declared.reading.class.Closing.TheVariants as closing
use Rattle.cedar_expression_machine.specs.declared.expression.state.Frame.{Frame}
use Rattle.cedar_expression_machine.specs.declared.expression.state.OperandPlace.{OperandPlace}
use Rattle.cedar_expression_machine.specs.declared.expression.state.OperandPlace.TheVariants as place
use Rattle.cedar_expression_machine.specs.machines.ExpressionPlans.{list_may_end}
use Rattle.cedar_expression_machine.specs.machines.ExpressionShapes.{stack_shape}
use Rattle.cedar_expression_machine.proofs.expression.state.State.may_end_list.Goals as goal

-- no list is open
none_ends : (p : OperandPlace) (x : Closing) → list_may_end [] p x ≡ false
none_ends place.Item closing.Bracket = refl
none_ends place.Item closing.Paren = refl
none_ends place.Item _ = refl
none_ends place.Key closing.Brace = refl
none_ends place.Key _ = refl
none_ends place.Expr x = refl
none_ends place.Has x = refl
none_ends place.Operand x = refl
none_ends place.Primary x = refl

pub returns-in-None : goal.returns-in-None
returns-in-None c =
    sym (ap (λ (st : List Frame). list_may_end (stack_shape st) c.args.place c.args.closing) c.in-None.ensures
    ∙ none_ends c.args.place c.args.closing)

pub returns-in-Some : goal.returns-in-Some
returns-in-Some c =
    c.may_end_list.ensures (stack_shape c.in-Some.ensures.0)
    ∙ ap (λ (st : List Frame). list_may_end (stack_shape st) c.args.place c.args.closing) (sym c.in-Some.ensures.1)

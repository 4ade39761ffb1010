-- What is made of a part's answer where an expression is wanted.
use Rattle.std.specs.Prelude.{Result}
use Rattle.cedar_expressions.specs.Value.{Value}
use Rattle.cedar_syntax.specs.declared.err.faults.Failure.{Failure}
use Rattle.cedar_conversion.specs.declared.answer.special.ExprOrSpecial.{ExprOrSpecial}
use Rattle.cedar_conversion.specs.machines.Views.{plain}
use Rattle.cedar_conversion.specs.outcome.Held.{Held, as_expression}
use Rattle.cedar_conversion.specs.outcome.Outcome.{Outcome, next}
use Rattle.cedar_conversion.specs.outcome.Seen.{Gives}

-- whatever an answer gives, this gives it as an expression
abbrev pub IsExpressionOf : {E : Type 0} → (E → Value) → Result (ExprOrSpecial E) Failure
    → Result E Failure → Type 0
IsExpressionOf meaning answer made =
    (x : Outcome Held) → Gives (plain meaning) answer x → Gives meaning made (next x as_expression)

-- The form of an expression, as the program answers it.
use Rattle.std.specs.Prelude.{◌≡◌, Bool, true, false}
use Rattle.cedar_expressions.specs.Meaning.{expr_meaning}
use Rattle.cedar_expressions.specs.Value as v
use Rattle.cedar_expressions.specs.Value.{Value}
use Rattle.cedar_writer.specs.declared.shape.Shape.{Shape}
use Rattle.cedar_writer.specs.declared.shape.Shape.TheVariants.{Natural, Negation, Joint, Other}
use Rattle.cedar_writer.specs.Writing.{is_natural}

abbrev pub is_logical_not : Value → Bool
is_logical_not (v.not a) = true
is_logical_not a = false

abbrev pub is_joint : Value → Bool
is_joint (v.and a b) = true
is_joint a = false

abbrev pub IsShapeOf : Value → Shape → Type 0
IsShapeOf a Natural = (is_natural a ≡ true) × (is_logical_not a ≡ false) × (is_joint a ≡ false)
IsShapeOf a (Negation b) = a ≡ v.not (expr_meaning b.now)
IsShapeOf a (Joint parts) = a ≡ v.and (expr_meaning parts.now.0) (expr_meaning parts.now.1)
IsShapeOf a Other = (is_natural a ≡ false) × (is_logical_not a ≡ false) × (is_joint a ≡ false)

-- The form of an expression, as the program answers it.
use Rattle.std.specs.Prelude.{◌≡◌, Bool, true, false}
use Rattle.cedar_expressions.specs.Meaning.{expr_meaning}
use Rattle.cedar_expressions.specs.Value as v
use Rattle.cedar_expressions.specs.Value.{Value}
use Rattle.cedar_json_writer.specs.declared.shape.Shape.{Shape}
use Rattle.cedar_json_writer.specs.declared.shape.Shape.TheVariants.{Negation, Joint, Other}

abbrev pub is_a_negation : Value → Bool
is_a_negation (v.not a) = true
is_a_negation a = false

abbrev pub is_conjoined : Value → Bool
is_conjoined (v.and a b) = true
is_conjoined a = false

abbrev pub IsFormOf : Value → Shape → Type 0
IsFormOf a (Negation b) = a ≡ v.not (expr_meaning b.now)
IsFormOf a (Joint parts) = a ≡ v.and (expr_meaning parts.now.0) (expr_meaning parts.now.1)
IsFormOf a Other = (is_a_negation a ≡ false) × (is_conjoined a ≡ false)

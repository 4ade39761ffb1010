-- What a node gives while it is converted, with its place: an expression, or what is one but may
-- be something else where it stands bare. A string is kept as it is written: what it stands for is
-- settled where it is wanted.
use Rattle.std.specs.Prelude.{ℕ, Bool, true, false, List, [], ◌∷◌, Option, Ok}
use Rattle.cedar_syntax.specs.declared.cst.Ident.{Ident}
use Rattle.cedar_syntax.specs.declared.cst.Ident.TheVariants as words
use Rattle.cedar_syntax.specs.declared.loc.Loc.{Loc}
use Rattle.cedar_expressions.specs.declared.entity.EntityType.{EntityType}
use Rattle.cedar_expressions.specs.declared.atoms.PatternElem.{PatternElem}
use Rattle.cedar_expressions.specs.declared.atoms.Var.{Var}
use Rattle.cedar_expressions.specs.declared.atoms.Literal.TheVariants as literals
use Rattle.cedar_expressions.specs.Path.{Path, name_text}
use Rattle.cedar_expressions.specs.Value as v
use Rattle.cedar_expressions.specs.Value.{Value}
use Rattle.cedar_expressions.specs.Written.{var_text}
use Rattle.cedar_conversion.specs.outcome.Detail.{spelling, word}
use Rattle.cedar_conversion.specs.outcome.Outcome.{Outcome, fault_outcome, detailed_outcome, next, arbitrary_variable, invalid_pattern, invalid_is_type, invalid_string, invalid_attribute, path_as_attribute, reserved_identifier}
use Rattle.cedar_conversion.specs.parts.Strings.{text_outcome, pattern_outcome}

pub data Held : Type 0 where
  expression : Option Loc → Value → Held
  variable : Option Loc → Var → Held
  bare_name : Option Loc → Path → Held
  bare_truth : Option Loc → Bool → Held
  bare_string : Option Loc → List ℕ → Held

abbrev pub text_value : List ℕ → Outcome Value
text_value text = Ok (v.val (literals.String text))

-- where an expression is wanted, a name that is no variable is none
abbrev pub as_expression : Held → Outcome Value
as_expression (expression place x) = Ok x
as_expression (variable place x) = Ok (v.var x)
as_expression (bare_name place name) =
    detailed_outcome arbitrary_variable place (spelling (name_text name))
as_expression (bare_truth place b) = Ok (v.val (literals.Bool b))
as_expression (bare_string place raw) = next (text_outcome place raw) text_value

-- right of `like`
abbrev pub as_pattern : Held → Outcome (List PatternElem)
as_pattern (expression place x) = fault_outcome invalid_pattern place
as_pattern (variable place x) = fault_outcome invalid_pattern place
as_pattern (bare_name place name) = fault_outcome invalid_pattern place
as_pattern (bare_truth place b) = fault_outcome invalid_pattern place
as_pattern (bare_string place raw) = pattern_outcome place raw

abbrev pub type_of_name : Path → EntityType
type_of_name name = record { name = name }

-- right of `is`
abbrev pub as_entity_type : Held → Outcome EntityType
as_entity_type (expression place x) = fault_outcome invalid_is_type place
as_entity_type (variable place x) = Ok (type_of_name (record { path = []; id = var_text x }))
as_entity_type (bare_name place name) = Ok (type_of_name name)
as_entity_type (bare_truth place b) = fault_outcome invalid_is_type place
as_entity_type (bare_string place raw) = fault_outcome invalid_is_type place

-- where a string is wanted and nothing else, as inside an index
abbrev pub as_string : Held → Outcome (List ℕ)
as_string (expression place x) = fault_outcome invalid_string place
as_string (variable place x) = fault_outcome invalid_string place
as_string (bare_name place name) = fault_outcome invalid_string place
as_string (bare_truth place b) = fault_outcome invalid_string place
as_string (bare_string place raw) = text_outcome place raw

abbrev pub unqualified : Option Loc → List (List ℕ) → List ℕ → Outcome (List ℕ)
unqualified place [] id = Ok id
unqualified place (_ ∷ _) id = fault_outcome path_as_attribute place

-- the word that a truth value is
abbrev pub truth_word : Bool → Ident
truth_word true = words.True
truth_word false = words.False

-- a record's key
abbrev pub as_attribute : Held → Outcome (List ℕ)
as_attribute (expression place x) = fault_outcome invalid_attribute place
as_attribute (variable place x) = Ok (var_text x)
as_attribute (bare_name place name) = unqualified place name.path name.id
as_attribute (bare_truth place b) =
    detailed_outcome reserved_identifier place (word (truth_word b))
as_attribute (bare_string place raw) = text_outcome place raw

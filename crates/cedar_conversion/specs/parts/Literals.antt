-- Literals: what a literal's node gives, and the literal that a member is.
use Rattle.std.specs.Prelude.{ℕ, nat_le, true, false, List, Option, Some, None, Ok, if◌then◌else◌, pos}
use Rattle.cedar_syntax.specs.declared.loc.Loc.{Loc}
use Rattle.cedar_syntax.specs.declared.cst.Literal.{Literal}
use Rattle.cedar_syntax.specs.declared.cst.Literal.TheVariants as lit
use Rattle.cedar_syntax.specs.declared.cst.Str.{Str}
use Rattle.cedar_syntax.specs.declared.cst.Str.TheVariants as str
use Rattle.cedar_syntax.specs.trees.Located as f
use Rattle.cedar_syntax.specs.trees.Located.{Located}
use Rattle.cedar_expressions.specs.declared.atoms.Literal.TheVariants as literals
use Rattle.cedar_expressions.specs.Value as v
use Rattle.cedar_conversion.specs.outcome.Held.{Held, expression, bare_truth, bare_string, as_string}
use Rattle.cedar_conversion.specs.outcome.Detail.{number}
use Rattle.cedar_conversion.specs.outcome.Outcome.{Outcome, fault_outcome, detailed_outcome, next, empty_node, integer_literal_too_large, invalid_string}
use Rattle.cedar_conversion.specs.strict.Strict.{largest}

-- the number that a node is, if it is a number and no more
abbrev pub number_in : Option Literal → Option ℕ
number_in (Some (lit.Num n)) = Some n
number_in _ = None

abbrev pub literal_alone : Located → Option Literal
literal_alone (f.at place (f.literal n)) = n.node
literal_alone _ = None

-- the literal that a member is, if it is a literal and no more
abbrev pub lone_literal : Located → Option Literal
lone_literal (f.at place (f.member item f.none)) = literal_alone item
lone_literal _ = None

abbrev pub number_outcome : Option Loc → ℕ → Outcome Held
number_outcome place n =
    if nat_le largest n then detailed_outcome integer_literal_too_large place (number n)
    else Ok (expression place (v.val (literals.Long (pos n))))

-- a string has its literal's place; one that no text is written as is refused at its own
abbrev pub raw_string_outcome : Option Loc → Option Loc → Str → Outcome Held
raw_string_outcome place own (str.String raw) = Ok (bare_string place raw)
raw_string_outcome place own (str.Invalid raw) = fault_outcome invalid_string own

abbrev pub held_string : Option Loc → Option Loc → Option Str → Outcome Held
held_string place own (Some s) = raw_string_outcome place own s
held_string place own None = fault_outcome empty_node own

abbrev pub literal_outcome : Option Loc → Option Literal → Outcome Held
literal_outcome place (Some lit.True) = Ok (bare_truth place true)
literal_outcome place (Some lit.False) = Ok (bare_truth place false)
literal_outcome place (Some (lit.Num n)) = number_outcome place n
literal_outcome place (Some (lit.Str s)) = held_string place s.loc s.node
literal_outcome place None = fault_outcome empty_node place

-- what a primary gives where a string is wanted and nothing else
abbrev pub string_outcome : Located → Outcome (List ℕ)
string_outcome (f.missing place) = fault_outcome empty_node place
string_outcome (f.at place (f.literal n)) = next (literal_outcome n.loc n.node) as_string
string_outcome (f.at place _) = fault_outcome invalid_string place

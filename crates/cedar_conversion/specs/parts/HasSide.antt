-- Right of `has`: a bare string, or identifiers joined by `.`. Where the right side is one member
-- without operators or signs, a literal or a name that begins it is converted first.
use Rattle.std.specs.Prelude.{ℕ, List, [], ◌∷◌, Option, Ok, if◌then◌else◌}
use Rattle.cedar_expressions.specs.Written.{var_text}
use Rattle.cedar_syntax.specs.declared.loc.Loc.{Loc}
use Rattle.cedar_syntax.specs.trees.Located as f
use Rattle.cedar_syntax.specs.trees.Located.{Located, Form, Parts}
use Rattle.cedar_conversion.specs.outcome.Detail.{word}
use Rattle.cedar_conversion.specs.outcome.Held.{Held, expression, variable, bare_name, bare_truth, bare_string, truth_word, unqualified}
use Rattle.cedar_conversion.specs.parts.Leaves.{name_leaf}
use Rattle.cedar_conversion.specs.parts.Literals.{literal_outcome}
pub use Rattle.cedar_conversion.specs.outcome.LonePart.{no_sign}
use Rattle.cedar_conversion.specs.parts.Names.{unreserved_ident}
use Rattle.cedar_conversion.specs.outcome.Outcome.{Outcome, fault_outcome, detailed_outcome, next, empty_node, invalid_has_rhs, reserved_identifier}
use Rattle.cedar_conversion.specs.parts.Strings.{text_outcome}

-- the first attribute, and those behind it
abbrev pub Attributes : Type 0
Attributes = List ℕ × List (List ℕ)

-- a field, the only access that may stand there
abbrev pub field_form : Option Loc → Form → Outcome (List ℕ)
field_form place (f.field n) = unreserved_ident n
field_form place _ = fault_outcome invalid_has_rhs place

abbrev pub field_of : Located → Outcome (List ℕ)
field_of (f.missing place) = fault_outcome empty_node place
field_of (f.at place form) = field_form place form

-- the fields behind the first attribute: the first fault ends the work
abbrev pub fields_of : Parts → Outcome (List (List ℕ))
fields_of f.none = Ok []
fields_of (f.more op n others) =
    next (field_of n) (λ id. next (fields_of others) (λ ids. Ok (id ∷ ids)))

abbrev pub behind_first : Parts → List ℕ → Outcome Attributes
behind_first accesses first = next (fields_of accesses) (λ rest. Ok (first, rest))

-- a string stands alone
abbrev pub string_alone : Option Loc → Option Loc → List ℕ → Parts → Outcome Attributes
string_alone whole place raw f.none = next (text_outcome place raw) (λ text. Ok (text, []))
string_alone whole place raw (f.more op n others) = fault_outcome invalid_has_rhs whole

-- what a literal or a name that begins the right side makes of it
abbrev pub attributes_of : Option Loc → Parts → Held → Outcome Attributes
attributes_of whole accesses (expression place x) = fault_outcome invalid_has_rhs place
attributes_of whole accesses (variable place x) = behind_first accesses (var_text x)
attributes_of whole accesses (bare_name place name) =
    next (unqualified place name.path name.id) (behind_first accesses)
attributes_of whole accesses (bare_truth place b) =
    detailed_outcome reserved_identifier place (word (truth_word b))
attributes_of whole accesses (bare_string place raw) = string_alone whole place raw accesses

-- any other primary is refused at its place
abbrev pub beginning_outcome : Option Loc → Parts → Option Loc → Form → Outcome Attributes
beginning_outcome whole accesses place (f.literal n) =
    next (literal_outcome n.loc n.node) (attributes_of whole accesses)
beginning_outcome whole accesses place (f.name n) =
    next (name_leaf place n) (attributes_of whole accesses)
beginning_outcome whole accesses place _ = fault_outcome invalid_has_rhs place

abbrev pub begins_with : Option Loc → Parts → Located → Outcome Attributes
begins_with whole accesses (f.missing place) = fault_outcome empty_node place
begins_with whole accesses (f.at place form) = beginning_outcome whole accesses place form

-- through operators with one part and operands without signs to the member; `whole` is the place
-- of the whole right side
unfoldable mutual
  pub right_side : Option Loc → Located → Outcome Attributes
  right_side whole (f.missing place) = fault_outcome empty_node place
  right_side whole (f.at place form) = right_form whole form

  pub right_form : Option Loc → Form → Outcome Attributes
  right_form whole (f.chain level n f.none) = right_side whole n
  right_form whole (f.unary op n) =
      if no_sign op then right_side whole n else fault_outcome invalid_has_rhs whole
  right_form whole (f.member item accesses) = begins_with whole accesses item
  right_form whole _ = fault_outcome invalid_has_rhs whole

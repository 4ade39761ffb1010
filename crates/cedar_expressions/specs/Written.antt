-- How values are written. The original fixes the words of variables and slots, names, truth
-- values, and an entity's text; the rest is this repository's own (docs/DECISIONS.md). How whole
-- expressions are shown stands in `Shown`.
use Rattle.std.specs.Prelude.{ℕ, List, ◌++◌, if◌then◌else◌, codes}
use Rattle.std.specs.Fmt.{signed_decimal, decimal}
use Rattle.std.specs.Char.{encode_utf8}
use Rattle.cedar_expressions.specs.declared.operators.AddOp.{AddOp}
use Rattle.cedar_expressions.specs.declared.operators.AddOp.TheVariants.{Plus, Minus}
use Rattle.cedar_expressions.specs.declared.operators.UnaryOp.{UnaryOp}
use Rattle.cedar_expressions.specs.declared.operators.UnaryOp.TheVariants.{Not, Neg}
use Rattle.cedar_expressions.specs.declared.atoms.Literal.{Literal}
use Rattle.cedar_expressions.specs.declared.atoms.Literal.TheVariants as literal
use Rattle.cedar_expressions.specs.declared.atoms.Var.{Var}
use Rattle.cedar_expressions.specs.declared.atoms.Var.TheVariants as var
use Rattle.cedar_expressions.specs.declared.atoms.SlotId.{SlotId}
use Rattle.cedar_expressions.specs.declared.atoms.SlotId.TheVariants as slot
use Rattle.cedar_expressions.specs.declared.entity.EntityUID.{EntityUID}
use Rattle.cedar_expressions.specs.declared.atoms.PatternElem.{PatternElem}
use Rattle.cedar_expressions.specs.declared.atoms.PatternElem.TheVariants as element
use Rattle.cedar_expressions.specs.declared.errors.ExpressionConstructionError.{ExpressionConstructionError}
use Rattle.cedar_expressions.specs.declared.errors.RecordError.{RecordError}
use Rattle.cedar_expressions.specs.declared.errors.RecordError.TheVariants.{Memory, Construction}
use Rattle.cedar_expressions.specs.declared.names.ReservedNameError.{ReservedNameError}
use Rattle.cedar_expressions.specs.declared.place.Place.{Place}
use Rattle.cedar_expressions.specs.Path.{name_text}
use Rattle.cedar_expressions.specs.Escapes.{quoted, escaped_text}

-- operators by their signs
abbrev pub add_op_text : AddOp → List ℕ
add_op_text Plus = codes "+"
add_op_text Minus = codes "-"

abbrev pub unary_op_text : UnaryOp → List ℕ
unary_op_text Not = codes "!"
unary_op_text Neg = codes "-"

-- variables and slots by their words
abbrev pub var_text : Var → List ℕ
var_text var.Principal = codes "principal"
var_text var.Action = codes "action"
var_text var.Resource = codes "resource"
var_text var.Context = codes "context"

abbrev pub slot_text : SlotId → List ℕ
slot_text slot.Principal = codes "?principal"
slot_text slot.Resource = codes "?resource"

-- an entity: its type, `::` and the identifier as a string is written, so that the text is read as
-- that entity
abbrev pub entity_text : EntityUID → List ℕ
entity_text entity = name_text entity.entity_type.name
    ++ (codes "::" ++ quoted (escaped_text entity.eid.text))

abbrev pub literal_text : Literal → List ℕ
literal_text (literal.Bool b) = if b then codes "true" else codes "false"
literal_text (literal.Long number) = signed_decimal number
literal_text (literal.String text) = quoted (escaped_text text)
literal_text (literal.EntityUID entity) = entity_text entity

-- an element of a pattern: its character, or a star
abbrev pub element_text : PatternElem → List ℕ
element_text (element.Char character) = encode_utf8 character
element_text element.Wildcard = codes "*"

abbrev pub place_text : Place → List ℕ
place_text place = decimal place.length ++ (codes " bytes from "
    ++ (decimal place.offset ++ codes " on"))

-- what refusals say
abbrev pub duplicate_text : ExpressionConstructionError → List ℕ
duplicate_text error = codes "duplicate key `" ++ (error.key ++ codes "` in record")

abbrev pub record_error_text : RecordError → List ℕ
record_error_text (Memory _) = codes "want of memory"
record_error_text (Construction error) = duplicate_text error

abbrev pub reserved_text : ReservedNameError → List ℕ
reserved_text error = codes "the name `" ++ (name_text error.name
    ++ codes "` is reserved: it holds `__cedar`")

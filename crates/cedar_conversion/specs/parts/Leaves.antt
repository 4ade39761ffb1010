-- What the primaries that hold no expression give, beside literals: names, slots and entities.
use Rattle.std.specs.Prelude.{Option, Some, None, Ok}
use Rattle.std.specs.Option.{option_map}
use Rattle.cedar_syntax.specs.declared.loc.Loc.{Loc}
use Rattle.cedar_syntax.specs.declared.node.Node.{Node}
use Rattle.cedar_syntax.specs.declared.cst.Name.{Name}
use Rattle.cedar_syntax.specs.declared.cst.Ref.{Ref}
use Rattle.cedar_syntax.specs.declared.cst.Slot.{Slot}
use Rattle.cedar_expressions.specs.declared.atoms.Var.{Var}
use Rattle.cedar_expressions.specs.declared.atoms.Literal.TheVariants as literals
use Rattle.cedar_expressions.specs.declared.atoms.SlotId.{SlotId}
use Rattle.cedar_expressions.specs.Value as v
use Rattle.cedar_expressions.specs.Value.{Value}
use Rattle.cedar_conversion.specs.parts.Entities.{entity_outcome, slot_outcome}
use Rattle.cedar_conversion.specs.outcome.Held.{Held, expression, variable, bare_name}
use Rattle.cedar_conversion.specs.parts.Names.{name_outcome, named_variable}
use Rattle.cedar_conversion.specs.outcome.Outcome.{Outcome, next}
use Rattle.cedar_conversion.specs.outcome.Places.{bytes_of}

abbrev pub variable_or_name : Option Loc → Option Var → Node (Option Name) → Outcome Held
variable_or_name place (Some x) n = Ok (variable place x)
variable_or_name place None n = next (name_outcome n) (λ name. Ok (bare_name place name))

-- a name has the place of its primary
abbrev pub name_leaf : Option Loc → Node (Option Name) → Outcome Held
name_leaf place n = variable_or_name place (named_variable n.node) n

-- a slot as a value, where its node stands
abbrev pub slot_value : Option Loc → SlotId → Value
slot_value place id = v.slot (record { id = id; place = option_map bytes_of place })

abbrev pub slot_leaf : Node (Option Slot) → Outcome Held
slot_leaf n = next (slot_outcome n) (λ id. Ok (expression n.loc (slot_value n.loc id)))

abbrev pub entity_leaf : Node (Option Ref) → Outcome Held
entity_leaf n =
    next (entity_outcome n) (λ uid. Ok (expression n.loc (v.val (literals.EntityUID uid))))

-- Entities and slots: what their nodes give.
use Rattle.std.specs.Prelude.{ℕ, List, Option, Ok}
use Rattle.cedar_syntax.specs.declared.loc.Loc.{Loc}
use Rattle.cedar_syntax.specs.declared.node.Node.{Node}
use Rattle.cedar_syntax.specs.declared.cst.Ref.{Ref}
use Rattle.cedar_syntax.specs.declared.cst.Ref.TheVariants as refs
use Rattle.cedar_syntax.specs.declared.cst.Slot.{Slot}
use Rattle.cedar_syntax.specs.declared.cst.Slot.TheVariants as slots
use Rattle.cedar_syntax.specs.declared.cst.Str.{Str}
use Rattle.cedar_syntax.specs.declared.cst.Str.TheVariants as str
use Rattle.cedar_expressions.specs.declared.entity.EntityUID.{EntityUID}
use Rattle.cedar_expressions.specs.declared.atoms.SlotId.{SlotId}
use Rattle.cedar_expressions.specs.declared.atoms.SlotId.TheVariants as ids
use Rattle.cedar_expressions.specs.Path.{Path}
use Rattle.cedar_conversion.specs.parts.Names.{content_outcome, name_outcome}
use Rattle.cedar_conversion.specs.outcome.Detail.{spelling}
use Rattle.cedar_conversion.specs.outcome.Outcome.{Outcome, fault_outcome, detailed_outcome, both, next, invalid_string, invalid_entity_literal, invalid_slot}
use Rattle.cedar_conversion.specs.parts.Strings.{text_outcome}

-- the text of an entity's id: its escape faults stand at the entity's place, what is no string at
-- its own
abbrev pub id_text : Option Loc → Option Loc → Str → Outcome (List ℕ)
id_text place own (str.String raw) = text_outcome place raw
id_text place own (str.Invalid raw) = fault_outcome invalid_string own

abbrev pub id_outcome : Option Loc → Node (Option Str) → Outcome (List ℕ)
id_outcome place n = next (content_outcome n.loc n.node) (id_text place n.loc)

abbrev pub entity_of : Path × List ℕ → EntityUID
entity_of p = record { entity_type = record { name = p.0 }; eid = record { text = p.1 } }

-- type and id joined; the form with braces is refused
abbrev pub reference_outcome : Option Loc → Ref → Outcome EntityUID
reference_outcome place (refs.Uid path eid) =
    next (both (name_outcome path) (id_outcome place eid)) (λ p. Ok (entity_of p))
reference_outcome place (refs.Ref path inits) = fault_outcome invalid_entity_literal place

abbrev pub entity_outcome : Node (Option Ref) → Outcome EntityUID
entity_outcome n = next (content_outcome n.loc n.node) (reference_outcome n.loc)

abbrev pub slot_id : Option Loc → Slot → Outcome SlotId
slot_id place slots.Principal = Ok ids.Principal
slot_id place slots.Resource = Ok ids.Resource
slot_id place (slots.Other text) = detailed_outcome invalid_slot place (spelling text)

abbrev pub slot_outcome : Node (Option Slot) → Outcome SlotId
slot_outcome n = next (content_outcome n.loc n.node) (slot_id n.loc)

use Rattle.std.proofs.Common.{◌≡◌, take, map}
use Rattle.serde_json.specs.Data.{string}
use Rattle.serde_json.specs.View.{view}
use Rattle.cedar_expressions.specs.Written.{slot_text}
use Rattle.cedar_tool.proofs.lines.slots.Given as goal

abbrev pub invariant-loop-slot : goal.invariant-loop-slot
invariant-loop-slot l =
    map view l.names.items ≡ map (λ slot. string (slot_text slot.id)) (take l.slot-index l.slot-items)

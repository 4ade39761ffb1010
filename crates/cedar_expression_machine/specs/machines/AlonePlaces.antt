-- Where the trees stand that an operand alone makes, up to its sum.
use Rattle.std.specs.Prelude.{ℕ, List, Option}
use Rattle.cedar_grammar.specs.grammar.Place.{joint_extent, loc_at}
use Rattle.cedar_grammar.specs.declared.reading.extent.Extent.{Extent}
use Rattle.cedar_expression_machine.specs.declared.expression.levels.alone.Places.{Places}
use Rattle.cedar_expression_machine.specs.declared.expression.levels.alone.UpperPlaces.{UpperPlaces}
use Rattle.cedar_expression_machine.specs.declared.expression.state.Operand.{Operand}

-- the operand without its signs, with them, and the product that it is
abbrev pub places_of : List ℕ → Operand → Places
places_of src m = record {
  of_member = loc_at src m.extent;
  of_unary = loc_at src (joint_extent m.signs.extent m.extent);
  of_mult = loc_at src (joint_extent m.signs.extent m.extent);
}

-- the places of the trees above its sum, all at these bytes
abbrev pub upper_places : List ℕ → Option Extent → UpperPlaces
upper_places src extent = record {
  of_add = loc_at src extent;
  of_relation = loc_at src extent;
  of_and = loc_at src extent;
  of_or = loc_at src extent;
}

-- The one part that a node right of `has` is, below a sum, else why it isn't one part alone: the
-- whole right side is refused then.
use Rattle.std.specs.Prelude.{Option, Some, None, Ok}
use Rattle.cedar_syntax.specs.declared.loc.Loc.{Loc}
use Rattle.cedar_syntax.specs.trees.Located as f
use Rattle.cedar_syntax.specs.trees.Located.{Located}
use Rattle.cedar_conversion.specs.outcome.LonePart.{lone_part}
use Rattle.cedar_conversion.specs.outcome.Outcome.{Outcome, fault_outcome, empty_node, invalid_has_rhs}

abbrev pub part_or_refused : Option Loc → Option Located → Outcome Located
part_or_refused whole (Some part) = Ok part
part_or_refused whole None = fault_outcome invalid_has_rhs whole

abbrev pub side_child : Option Loc → Located → Outcome Located
side_child whole (f.missing place) = fault_outcome empty_node place
side_child whole (f.at place form) = part_or_refused whole (lone_part form)

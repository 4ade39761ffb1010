use Rattle.std.proofs.Common.{take}
use Rattle.cedar_conversion.specs.parts.Names.{all_of, valid_ident}
use Rattle.cedar_conversion.specs.outcome.Seen.{Gives}
use Rattle.cedar_conversion.proofs.Identifiers.{listed_nodes}
use Rattle.cedar_conversion.proofs.leaves.names.path_of.Given as goal

abbrev pub invariant-loop-part : goal.invariant-loop-part
invariant-loop-part l = Gives listed_nodes l.all (all_of valid_ident (take l.part-index l.path))

use Rattle.std.proofs.Common.{map, take}
use Rattle.cedar_syntax.specs.trees.Forms.{listed_expr, parts_of}
use Rattle.cedar_policy_conversion.specs.References.{entities}
use Rattle.cedar_conversion.specs.outcome.Seen.{Gives}
use Rattle.cedar_conversion.proofs.Identifiers.{listed_nodes}
use Rattle.cedar_policy_conversion.proofs.to_ref_or_refs.entities.Given as goal

abbrev pub invariant-loop-item : goal.invariant-loop-item
invariant-loop-item l = Gives listed_nodes l.all (entities (parts_of (map listed_expr (take l.item-index l.items))))

use Rattle.std.proofs.Common.{take}
use Rattle.std.specs.BTreeMap.{IsOrdered}
use Rattle.cedar_policy_store.specs.TextMap.{map_in, text_order}
use Rattle.cedar_policy_conversion.specs.AnnotationKeys.{gathering}
use Rattle.cedar_policy_conversion.specs.machines.Filled.{HoldsSoFar}
use Rattle.cedar_policy_conversion.proofs.annotations.annotations.Given as goal

abbrev pub invariant-loop-node : goal.invariant-loop-node
invariant-loop-node g l = record {
  ordered : IsOrdered text_order l.map;
  filled : HoldsSoFar g.F.Fn l.f (gathering (take l.node-index l.nodes)) (map_in l.map) l.all;
}

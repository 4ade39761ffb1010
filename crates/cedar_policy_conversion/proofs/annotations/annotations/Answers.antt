use Rattle.cedar_policy_store.specs.TextMap.{map_in}
use Rattle.cedar_policy_store.proofs.MapsByText.{map_in-empty}
use Rattle.cedar_policy_conversion.specs.AnnotationKeys.{gathering}
use Rattle.cedar_policy_conversion.proofs.FilledMaps.{filled_first, filled_ok, filled_err, gathered_next, refused_on}
use Rattle.cedar_conversion.proofs.Loops.{take_whole}
use Rattle.cedar_policy_conversion.proofs.annotations.annotations.Goals as goal

pub loop-node-init : goal.loop-node-init
loop-node-init g c = record {
  ordered = c.new-map.ensures.ordered;
  filled = filled_first g.F.Fn c.args.f.now _ (map_in-empty c.new-map.result c.new-map.ensures.empty);
}

pub loop-node-preserved : goal.loop-node-preserved
loop-node-preserved g c = record {
  ordered = c.one_more-all.ensures.ordered c.loop-node.invariant.ordered;
  filled = rw (gathered_next c.args.nodes.now c.loop-node.node-index c.node-item.result c.loop-node-test.true c.node-item.is) (c.one_more-all.ensures.filled _ c.loop-node.invariant.ordered c.loop-node.invariant.filled);
}

pub returns-in_err-all : goal.returns-in_err-all
returns-in_err-all g c =
    let whole = rw (take_whole c.args.nodes.now c.loop-node.node-index c.loop-node-test.false) at c.loop-node.invariant.filled in
    refused_on g.F.Fn c.args.f.now c.from_residual-in_err-all.result c.in_err-all.field-0.0 _ c.from_residual-in_err-all.ensures.1 (filled_err g.F.Fn c.args.f.now (gathering c.args.nodes.now) (map_in c.loop-node.map) c.loop-node.all c.in_err-all.field-0.0 c.in_err-all.was whole)

pub returns : goal.returns
returns g c =
    let whole = rw (take_whole c.args.nodes.now c.loop-node.node-index c.loop-node-test.false) at c.loop-node.invariant.filled in
    filled_ok g.F.Fn c.args.f.now (gathering c.args.nodes.now) (map_in c.loop-node.map) c.loop-node.all tt c.in_ok-all.was whole

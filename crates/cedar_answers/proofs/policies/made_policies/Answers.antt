use Rattle.std.proofs.Common.{map, ap, ◌+◌}
use Rattle.cedar_answers.specs.Made.{policy_made}
use Rattle.cedar_answers.proofs.Telling.{told_next, told_whole}
use Rattle.cedar_answers.proofs.policies.made_policies.Goals as goal

pub loop-node-preserved : goal.loop-node-preserved
loop-node-preserved c =
    let h = c.loop-node.invariant in (
      ap (λ n. n + 1) h.0,
      told_next c.args.lines.now.text.now c.args.set.now c.args.nodes.now c.loop-node.node-index c.loop-node.count c.node-item.result (map policy_made c.loop-node.all.items) _ _ c.loop-node-test.true c.node-item.is h.0 h.1
          c.in_ok-made_numbered.ensures c.in_ok-keep.ensures,
    )

pub returns : goal.returns
returns c = told_whole c.args.lines.now.text.now c.args.set.now c.args.nodes.now c.loop-node.node-index _ c.loop-node-test.false c.loop-node.invariant.1

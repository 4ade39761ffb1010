use Rattle.std.proofs.Common.{append-nil, refl, Ok}
use Rattle.cedar_syntax.specs.declared.cst.Add.{out-Add}
use Rattle.cedar_conversion.specs.strict.Table.{table_of}
use Rattle.cedar_conversion.specs.machines.Nested.{nested}
use Rattle.cedar_syntax.specs.trees.Forms.{located, mult_form, add_operand}
use Rattle.cedar_syntax.specs.trees.Tree.{add}
use Rattle.cedar_conversion.proofs.Loops.{take_whole}
use Rattle.cedar_conversion.proofs.Outcomes.{empty_gives, gives_at, gives_left, none_yet, plain_more}
use Rattle.cedar_conversion.proofs.Taken.{made, next_taken, more_nested}
use Rattle.cedar_conversion.proofs.Nodes as node
use Rattle.cedar_conversion.proofs.Nested as inner
use Rattle.cedar_conversion.proofs.levels.add_chain.Goals as goal

pub loop-op-init : goal.loop-op-init
loop-op-init g c =
    made (append-nil _) c.mult.ensures
    (λ h. (rw c.take-first.ensures h, gives_at _ c.with_room-rest.result _ _ (none_yet (table_of c.args.site.styles.now) c.args.site.loc.now) (empty_gives (λ p. (add p.0, g.B.ExprBuilderInfallibleBuild.meaning p.1)) c.with_room-rest.result c.with_room-rest.ensures)))

pub loop-op-preserved : goal.loop-op-preserved
loop-op-preserved g c =
    let whole = plain_more (table_of c.args.site.styles.now) c.args.site.loc.now add_operand c.as_slice-op-items.result.now c.loop-op.op-index c.loop-op-item.result c.loop-op-test.true c.loop-op-item.is (λ v. refl) in
    made (more_nested (nested (located mult_form (out-Add c.args.add.now).initial)) (λ p. nested (located mult_form p.1)) c.as_slice-op-items.result.now c.loop-op.op-index c.loop-op-item.result c.loop-op-test.true c.loop-op-item.is) (next_taken c.loop-op.invariant (λ p. c.mult-in-loop-op.ensures))
    (λ p. (p.0.0, rw whole (c.gather.ensures add _ _ p.0.1 p.1)))

pub returns : goal.returns
returns g c =
    let all = rw (take_whole c.as_slice-op-items.result.now c.loop-op.op-index c.loop-op-test.false, c.as_slice-op-items.ensures) at c.loop-op.invariant in
    made (inner.add_level _) all
    (λ p. gives_left _ _ _ _ _ c.put.ensures (node.add_node (table_of c.args.site.styles.now) c.args.site.loc.now c.args.add.now) (c.chain_from.ensures _ _ (Ok tt) p.0 p.1 refl))

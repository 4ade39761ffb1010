use Rattle.std.proofs.Common.{append-nil, refl, Ok}
use Rattle.cedar_syntax.specs.declared.cst.Mult.{out-Mult}
use Rattle.cedar_conversion.specs.strict.Table.{table_of}
use Rattle.cedar_conversion.specs.machines.Nested.{nested}
use Rattle.cedar_syntax.specs.trees.Forms.{located, unary_form, mult_operand}
use Rattle.cedar_syntax.specs.trees.Tree.{multiply}
use Rattle.cedar_conversion.proofs.Loops.{take_whole}
use Rattle.cedar_conversion.proofs.Outcomes.{gives_left, none_yet, part_more}
use Rattle.cedar_conversion.proofs.Taken.{made, next_taken, more_nested}
use Rattle.cedar_conversion.proofs.Nodes as node
use Rattle.cedar_conversion.proofs.Nested as inner
use Rattle.cedar_conversion.proofs.levels.mult_chain.Goals as goal

pub loop-op-init : goal.loop-op-init
loop-op-init g c =
    made (append-nil _) c.unary.ensures (λ h. (rw c.take-first.ensures h, rw c.new.ensures.items (none_yet (table_of c.args.site.styles.now) c.args.site.loc.now)))

pub loop-op-preserved : goal.loop-op-preserved
loop-op-preserved g c =
    let whole = part_more (table_of c.args.site.styles.now) c.args.site.loc.now mult_operand c.as_slice-op-items.result.now c.loop-op.op-index c.loop-op-item.result c.loop-op-test.true c.loop-op-item.is in
    made (more_nested (nested (located unary_form (out-Mult c.args.mult.now).initial)) (λ p. nested (located unary_form p.1)) c.as_slice-op-items.result.now c.loop-op.op-index c.loop-op-item.result c.loop-op-test.true c.loop-op-item.is) (next_taken c.loop-op.invariant (λ p. c.unary-in-loop-op.ensures))
    (λ p. (p.0.0, rw whole (c.more.ensures multiply _ _ p.0.1 (c.factor_of-factor.ensures _ (c.value_in-part.ensures _ p.1)))))

pub returns : goal.returns
returns g c =
    let all = rw (take_whole c.as_slice-op-items.result.now c.loop-op.op-index c.loop-op-test.false, c.as_slice-op-items.ensures) at c.loop-op.invariant in
    made (inner.mult_level _) all
    (λ p. gives_left _ _ _ _ _ c.put.ensures (node.mult_node (table_of c.args.site.styles.now) c.args.site.loc.now c.args.mult.now) (c.chain_from.ensures _ _ (Ok tt) p.0 p.1 refl))

use Rattle.cedar_syntax.specs.declared.cst.Add.{Add}
use Rattle.cedar_syntax.specs.declared.cst.RelOp.{RelOp}
use Rattle.cedar_syntax.specs.declared.node.Node.{Node}
use Rattle.std.proofs.Common.{Option, append-nil, refl, sym, ap, ◌∙◌, [], ◌++◌}
use Rattle.cedar_conversion.specs.strict.Table.{table_of}
use Rattle.cedar_conversion.specs.outcome.Conversion.{outcome}
use Rattle.cedar_conversion.specs.machines.Nested.{nested}
use Rattle.cedar_syntax.specs.trees.Forms.{located, relation_form, add_form, relation_operand}
use Rattle.cedar_syntax.specs.trees.Tree.{compare}
use Rattle.cedar_conversion.proofs.Loops.{take_whole}
use Rattle.cedar_conversion.proofs.Outcomes.{given_in, gives_at, gives_left, none_yet, plain_more}
use Rattle.cedar_conversion.proofs.Taken.{made, next_taken, more_nested}
use Rattle.std.specs.List.{flat_map}
use Rattle.cedar_conversion.proofs.Nodes as node
use Rattle.cedar_conversion.proofs.Nested as inner
use Rattle.cedar_conversion.proofs.levels.comparisons.Goals as goal

pub loop-op-init : goal.loop-op-init
loop-op-init g c =
    let is = inner.first_is c.args.relation.now _ _ c.in-Common.is in
    made (ap (λ n. nested n ++ []) is ∙ append-nil _) c.add.ensures
    (λ h. (gives_at _ _ _ _ (ap (λ n. outcome (table_of c.args.site.styles.now) n) is) (given_in _ _ _ _ c.take-first.ensures h), rw c.new.ensures.items (none_yet (table_of c.args.site.styles.now) c.args.site.loc.now)))

pub loop-op-preserved : goal.loop-op-preserved
loop-op-preserved g c =
    let whole = plain_more (table_of c.args.site.styles.now) c.args.site.loc.now relation_operand c.as_slice-op-items.result.now c.loop-op.op-index c.loop-op-item.result c.loop-op-test.true c.loop-op-item.is (λ v. refl) in
    made (more_nested (nested (inner.first_in (relation_form c.args.relation.now))) (λ p. nested (located add_form p.1)) c.as_slice-op-items.result.now c.loop-op.op-index c.loop-op-item.result c.loop-op-test.true c.loop-op-item.is) (next_taken c.loop-op.invariant (λ p. c.add-in-loop-op.ensures))
    (λ p. (p.0.0, rw whole (c.gather.ensures compare _ _ p.0.1 p.1)))

pub returns : goal.returns
returns g c a b h =
    let is = inner.first_is c.args.relation.now _ _ c.in-Common.is in
    let all = rw (take_whole c.as_slice-op-items.result.now c.loop-op.op-index c.loop-op-test.false, c.as_slice-op-items.ensures) at c.loop-op.invariant in
    let allowed = rw c.as_slice.ensures at (c.at_most_one-allowed.ensures relation_operand) in
    made (inner.common _ _ _ c.in-Common.is ∙ ap (λ n. nested n ++ flat_map (λ (p : RelOp × Node (Option Add)). nested (located add_form p.1)) c.in-Common.extended) (sym is)) all
    (λ p. gives_left _ _ _ _ _ c.put.ensures (node.common_node (table_of c.args.site.styles.now) c.args.site.loc.now c.args.relation.now _ _ c.in-Common.is) (c.chain_from.ensures _ _ _ (gives_at _ _ _ _ (sym (ap (λ n. outcome (table_of c.args.site.styles.now) n) is)) p.0) p.1 allowed))

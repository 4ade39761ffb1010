use Rattle.std.proofs.Common.{refl, ◌∙◌}
use Rattle.cedar_conversion.specs.strict.Table.{table_of}
use Rattle.cedar_syntax.specs.trees.Forms.{located, expr_form, primary_form, listed_expr}
use Rattle.cedar_syntax.specs.trees.Tree.{beside}
use Rattle.cedar_conversion.proofs.Loops.{take_whole}
use Rattle.cedar_conversion.proofs.Outcomes.{empty_gives, gives_at, gives_left, none_yet, plain_more}
use Rattle.cedar_conversion.proofs.Taken.{untaken, made, next_taken, one_item}
use Rattle.cedar_conversion.proofs.Nodes as node
use Rattle.cedar_conversion.proofs.Nested as inner
use Rattle.cedar_conversion.proofs.primaries.set.Goals as goal

pub loop-part-init : goal.loop-part-init
loop-part-init g c =
    untaken (gives_at _ c.with_room-all.result _ _ (none_yet (table_of c.args.styles.now) c.args.node.now.loc) (empty_gives (λ e. (beside, g.B.ExprBuilderInfallibleBuild.meaning e)) c.with_room-all.result c.with_room-all.ensures))

pub loop-part-preserved : goal.loop-part-preserved
loop-part-preserved g c =
    let whole = plain_more (table_of c.args.styles.now) c.args.node.now.loc listed_expr c.as_slice-part-items.result.now c.loop-part.part-index c.part-item.result c.loop-part-test.true c.part-item.is (λ v. refl) in
    made (one_item (located expr_form) c.as_slice-part-items.result.now c.loop-part.part-index c.part-item.result c.loop-part-test.true c.part-item.is) (next_taken c.loop-part.invariant (λ p. c.answer.ensures))
    (λ p. rw whole (c.gather_value.ensures beside _ _ p.0 p.1))

pub returns : goal.returns
returns g c a h =
    let all = rw (take_whole c.as_slice-part-items.result.now c.loop-part.part-index c.loop-part-test.false, c.as_slice-part-items.ensures) at c.loop-part.invariant in
    made (inner.level primary_form c.args.node.now _ c.in-Some-EList.is ∙ inner.list _ _ (rw c.in-Some-EList.is at c.in-Some-EList.field-0-is)) all
    (λ p. gives_left _ _ _ _ _ c.put.ensures (node.list_node (table_of c.args.styles.now) c.args.node.now _ _ c.in-Some-EList.is (rw c.in-Some-EList.is at c.in-Some-EList.field-0-is)) (c.set_from.ensures _ p))

use Rattle.std.proofs.Common.{◌∙◌, []}
use Rattle.cedar_conversion.specs.strict.Table.{table_of}
use Rattle.cedar_conversion.specs.machines.Applied.{seen_pair}
use Rattle.cedar_conversion.specs.machines.Nested.{nested}
use Rattle.cedar_syntax.specs.trees.Forms.{located, primary_form, init_form, listed_init}
use Rattle.cedar_conversion.proofs.Gathered.{no_pair, pair_next}
use Rattle.cedar_conversion.proofs.Loops.{take_whole}
use Rattle.cedar_conversion.proofs.Outcomes.{empty_gives, gives_at, gives_left}
use Rattle.cedar_conversion.proofs.Taken.{untaken, made, next_taken, more_nested}
use Rattle.cedar_conversion.proofs.Nodes as node
use Rattle.cedar_conversion.proofs.Nested as inner
use Rattle.cedar_conversion.proofs.primaries.record.Goals as goal

pub loop-part-init : goal.loop-part-init
loop-part-init g c =
    untaken (gives_at _ c.with_room-all.result _ _ (no_pair (table_of c.args.styles.now)) (empty_gives (seen_pair g.B.ExprBuilderInfallibleBuild.meaning) c.with_room-all.result c.with_room-all.ensures))

pub loop-part-preserved : goal.loop-part-preserved
loop-part-preserved g c =
    let whole = pair_next (table_of c.args.styles.now) listed_init c.as_slice-part-items.result.now c.loop-part.part-index c.part-item.result c.loop-part-test.true c.part-item.is in
    made (more_nested [] (λ n. nested (located init_form n)) c.as_slice-part-items.result.now c.loop-part.part-index c.part-item.result c.loop-part-test.true c.part-item.is) (next_taken c.loop-part.invariant (λ p. c.init.ensures _ p)) (λ p. rw whole p.1)

pub returns : goal.returns
returns g c a h =
    let all = rw (take_whole c.as_slice-part-items.result.now c.loop-part.part-index c.loop-part-test.false, c.as_slice-part-items.ensures) at c.loop-part.invariant in
    made (inner.level primary_form c.args.node.now _ c.in-Some-RInits.is ∙ inner.inits _ _ (rw c.in-Some-RInits.is at c.in-Some-RInits.field-0-is)) all
    (λ p. gives_left _ _ _ _ _ c.put.ensures (node.inits_node (table_of c.args.styles.now) c.args.node.now _ _ c.in-Some-RInits.is (rw c.in-Some-RInits.is at c.in-Some-RInits.field-0-is)) (c.record_from.ensures _ p))

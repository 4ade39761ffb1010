use Rattle.std.proofs.Common.{append-nil, ◌∙◌}
use Rattle.cedar_conversion.specs.strict.Table.{table_of}
use Rattle.cedar_conversion.specs.machines.Applied.{seen_access}
use Rattle.cedar_conversion.specs.machines.Nested.{nested}
use Rattle.cedar_syntax.specs.trees.Forms.{located, primary_form, access_form, listed_access}
use Rattle.cedar_conversion.proofs.Gathered.{no_access, access_next, lone_access}
use Rattle.cedar_conversion.proofs.Loops.{take_whole}
use Rattle.cedar_conversion.proofs.Outcomes.{empty_gives, given_in, gives_at}
use Rattle.cedar_conversion.proofs.Taken.{made, next_taken, more_nested, lone_behind}
use Rattle.cedar_conversion.proofs.Nodes as node
use Rattle.cedar_conversion.proofs.Nested as inner
use Rattle.cedar_conversion.proofs.primaries.member_chain.Goals as goal

pub loop-part-init : goal.loop-part-init
loop-part-init g c =
    made (append-nil _) c.primary.ensures
    (λ h. (given_in _ _ _ _ c.take-item.ensures h, gives_at _ c.with_room-all.result _ _ (no_access (table_of c.args.site.styles.now)) (empty_gives (seen_access g.B.ExprBuilderInfallibleBuild.meaning) c.with_room-all.result c.with_room-all.ensures)))

pub loop-part-preserved : goal.loop-part-preserved
loop-part-preserved g c =
    let whole = access_next (table_of c.args.site.styles.now) listed_access c.as_slice-part-items.result.now c.loop-part.part-index c.part-item.result c.loop-part-test.true c.part-item.is in
    made (more_nested (nested (located primary_form c.args.member.now.item)) (λ n. nested (located access_form n)) c.as_slice-part-items.result.now c.loop-part.part-index c.part-item.result c.loop-part-test.true c.part-item.is) (next_taken c.loop-part.invariant (λ p. c.access-in-loop-part.ensures))
    (λ p. (p.0.0, rw whole (c.add_access.ensures _ _ p.0.1 p.1)))

pub returns : goal.returns
returns g c =
    let all = rw (take_whole c.as_slice-part-items.result.now c.loop-part.part-index c.loop-part-test.false, c.as_slice-part-items.ensures) at c.loop-part.invariant in
    made (inner.member_level _) all (λ p. gives_at _ _ _ _ (node.member_node (table_of c.args.site.styles.now) c.args.site.loc.now c.args.member.now) (c.member_in.ensures _ _ p.0 p.1))

pub returns-in-Some : goal.returns-in-Some
returns-in-Some g c =
    let alone = rw (c.as_slice.ensures, c.in-Some.is) at c.only_one.ensures in
    made (inner.member_level _ ∙ lone_behind _ (λ n. nested (located access_form n)) _ _ alone) (next_taken c.primary.ensures (λ p. c.access.ensures))
    (λ p. gives_at _ _ _ _ (node.member_node (table_of c.args.site.styles.now) c.args.site.loc.now c.args.member.now ∙ lone_access _ _ listed_access _ _ _ alone)
    (c.lone_access_in.ensures _ _ (given_in _ _ _ _ c.take-item.ensures p.0) p.1))

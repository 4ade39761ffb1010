use Rattle.std.proofs.Common.{append-nil, refl}
use Rattle.cedar_syntax.specs.declared.cst.Or.{out-Or}
use Rattle.cedar_conversion.specs.strict.Table.{table_of}
use Rattle.cedar_conversion.specs.machines.Nested.{nested}
use Rattle.cedar_syntax.specs.trees.Forms.{located, and_form, or_operand}
use Rattle.cedar_syntax.specs.trees.Tree.{or_or}
use Rattle.cedar_conversion.proofs.Loops.{take_whole}
use Rattle.cedar_conversion.proofs.Outcomes.{empty_gives, given_in, gives_at, none_yet, plain_more}
use Rattle.cedar_conversion.proofs.Taken.{made, next_taken, more_nested}
use Rattle.cedar_conversion.proofs.Nodes as node
use Rattle.cedar_conversion.proofs.Nested as inner
use Rattle.cedar_conversion.proofs.levels.or_chain.Goals as goal

pub loop-part-init : goal.loop-part-init
loop-part-init g c =
    made (append-nil _) c.and.ensures
    (λ h. (given_in _ _ _ _ c.take-first.ensures h, gives_at _ c.with_room-rest.result _ _ (none_yet (table_of c.args.site.styles.now) c.args.site.loc.now) (empty_gives (λ e. (or_or, g.B.ExprBuilderInfallibleBuild.meaning e)) c.with_room-rest.result c.with_room-rest.ensures)))

pub loop-part-preserved : goal.loop-part-preserved
loop-part-preserved g c =
    let whole = plain_more (table_of c.args.site.styles.now) c.args.site.loc.now or_operand c.as_slice-part-items.result.now c.loop-part.part-index c.part-item.result c.loop-part-test.true c.part-item.is (λ v. refl) in
    made (more_nested (nested (located and_form (out-Or c.args.or.now).initial)) (λ n. nested (located and_form n)) c.as_slice-part-items.result.now c.loop-part.part-index c.part-item.result c.loop-part-test.true c.part-item.is) (next_taken c.loop-part.invariant (λ p. c.and-in-loop-part.ensures))
    (λ p. (p.0.0, rw whole (c.gather_value.ensures or_or _ _ p.0.1 p.1)))

pub returns : goal.returns
returns g c =
    let all = rw (take_whole c.as_slice-part-items.result.now c.loop-part.part-index c.loop-part-test.false, c.as_slice-part-items.ensures) at c.loop-part.invariant in
    made (inner.or_level _) all (λ p. gives_at _ c.alike_in.new.answer _ _ (node.or_alike (table_of c.args.site.styles.now) c.args.site.loc.now c.args.or.now) (c.alike_in.ensures _ _ p.0 p.1))

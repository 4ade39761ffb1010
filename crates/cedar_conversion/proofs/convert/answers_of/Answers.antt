use Rattle.std.proofs.Common.{[], subst, sym}
use Rattle.cedar_conversion.specs.machines.Taking.{Waits}
use Rattle.cedar_conversion.specs.strict.Table.{table_of}
use Rattle.cedar_conversion.proofs.Taken.{answered_next, all_answered}
use Rattle.cedar_conversion.proofs.convert.answers_of.Goals as goal

pub loop-node-init : goal.loop-node-init
loop-node-init g c = ([], subst (λ ws. Waits g.B.ExprBuilderInfallibleBuild.meaning (table_of c.args.styles.now) ws []) (sym c.new-answers.ensures) tt, c.in_ok-order.ensures)

pub loop-node-preserved : goal.loop-node-preserved
loop-node-preserved g c =
    answered_next g.B.ExprBuilderInfallibleBuild.meaning (table_of c.args.styles.now) _ _ _ _ _ _ _ _ c.loop-node.invariant c.in-Some.ensures c.expression.ensures c.in_ok-keep.ensures

pub returns : goal.returns
returns g c = all_answered g.B.ExprBuilderInfallibleBuild.meaning (table_of c.args.styles.now) _ _ _ c.loop-node.invariant c.in_default.ensures.0

use Rattle.cedar_conversion.proofs.Outcomes.{gives_at}
use Rattle.cedar_conversion.proofs.Parts.{sum_made}
use Rattle.cedar_conversion.proofs.operators.chain.AddOpJoins.combine.Goals as goal

pub returns : goal.returns
returns g c = gives_at _ c.expr_at.result _ _ (sum_made g.B.ExprBuilderInfallibleBuild.meaning c.args.loc.now c.args.rest.items _ _ c.in_ok-add_nary.ensures) c.expr_at.ensures

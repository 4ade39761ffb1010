use Rattle.cedar_syntax.specs.trees.Tree.{multiply}
use Rattle.cedar_conversion.proofs.Outcomes.{gives_at}
use Rattle.cedar_conversion.proofs.Parts.{mult_made}
use Rattle.cedar_conversion.proofs.operators.chain.MultOpJoins.combine.Goals as goal

pub returns : goal.returns
returns g c = gives_at _ c.expr_at.result _ _ (mult_made multiply g.B.ExprBuilderInfallibleBuild.meaning c.args.loc.now c.args.rest.items _ _ _ c.in_ok-rest.ensures c.in_ok-mul_nary.ensures) c.expr_at.ensures

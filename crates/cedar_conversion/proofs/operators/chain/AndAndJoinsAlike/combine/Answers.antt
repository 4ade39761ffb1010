use Rattle.cedar_syntax.specs.trees.Tree.{and_and}
use Rattle.cedar_conversion.proofs.Outcomes.{gives_at}
use Rattle.cedar_conversion.proofs.Parts.{and_made}
use Rattle.cedar_conversion.proofs.operators.chain.AndAndJoinsAlike.combine.Goals as goal

pub returns : goal.returns
returns g c = gives_at _ c.expr_at.result _ _ (and_made and_and g.B.ExprBuilderInfallibleBuild.meaning c.args.loc.now c.args.rest.items _ _ c.in_ok-and_naryl.ensures) c.expr_at.ensures

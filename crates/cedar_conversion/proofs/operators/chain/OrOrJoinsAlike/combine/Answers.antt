use Rattle.cedar_syntax.specs.trees.Tree.{or_or}
use Rattle.cedar_conversion.proofs.Outcomes.{gives_at}
use Rattle.cedar_conversion.proofs.Parts.{or_made}
use Rattle.cedar_conversion.proofs.operators.chain.OrOrJoinsAlike.combine.Goals as goal

pub returns : goal.returns
returns g c = gives_at _ c.expr_at.result _ _ (or_made or_or g.B.ExprBuilderInfallibleBuild.meaning c.args.loc.now c.args.rest.items _ _ c.in_ok-or_nary.ensures) c.expr_at.ensures

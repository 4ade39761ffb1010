use Rattle.cedar_syntax.specs.trees.Tree.{beside}
use Rattle.cedar_conversion.specs.machines.Views.{plain}
use Rattle.cedar_conversion.proofs.Outcomes.{gives_at}
use Rattle.cedar_conversion.proofs.Parts.{set_made}
use Rattle.cedar_conversion.proofs.primaries.collections.set_from.Goals as goal

pub returns : goal.returns
returns g c ps h =
    let m = g.B.ExprBuilderInfallibleBuild.meaning in
    gives_at (plain m) c.expr_at.result _ _ (set_made beside m c.args.loc.now ps c.in_ok-items.field-0.items _ (rw c.in_ok-items.was at h) c.in_ok-set.ensures) c.expr_at.ensures

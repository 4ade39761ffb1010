use Rattle.cedar_syntax.specs.trees.Tree.{beside}
use Rattle.cedar_conversion.proofs.Parts.{call_made}
use Rattle.cedar_conversion.proofs.primaries.collections.call_from.Goals as goal

pub returns : goal.returns
returns g c ps h =
    call_made beside g.B.ExprBuilderInfallibleBuild.meaning ps c.in_ok-items.field-0.items (rw c.in_ok-items.was at h)

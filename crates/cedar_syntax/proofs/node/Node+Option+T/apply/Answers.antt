-- The closure was called on the value and the place, lent.
use Rattle.std.proofs.Common.{refl}
use Rattle.cedar_syntax.proofs.node.Node+Option+T.apply.Goals as goal

pub returns-in-Some : goal.returns-in-Some
returns-in-Some g c = rw c.in-Some.is (_, c.as_ref.result, refl, c.as_ref.ensures.value, c.f.ensures)

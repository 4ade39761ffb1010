use Rattle.std.proofs.Common.{refl}
use Rattle.cedar_conversion.proofs.Taken.{made}
use Rattle.cedar_conversion.proofs.primaries.parens.Goals as goal

pub returns : goal.returns
returns g c = made refl c.answer.ensures (λ h. c.parens_in.ensures _ h)

use Rattle.cedar_conversion.proofs.Outcomes.{gives_at}
use Rattle.cedar_conversion.proofs.Signed.{no_number}
use Rattle.cedar_conversion.proofs.operators.signs.apply_dashes.Goals as goal

pub returns-in-None : goal.returns-in-None
returns-in-None g c x h = rw c.in-None.is (gives_at _ c.apply_sign.result _ _ (no_number c.args.loc.now c.args.count x) (c.apply_sign.ensures x h))

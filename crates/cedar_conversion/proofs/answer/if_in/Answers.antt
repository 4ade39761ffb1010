use Rattle.cedar_conversion.proofs.answer.if_in.Goals as goal

pub returns : goal.returns
returns g c x y h given next other = rw c.put.ensures (c.if_from.ensures x y _ (rw c.take-guard.ensures given) (rw c.take-consequent.ensures next) (c.value_in-alternative.ensures h other))

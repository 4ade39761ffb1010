use Rattle.cedar_conversion.proofs.answer.gather_special.Goals as goal

pub returns : goal.returns
returns g c operator ps x h k = c.more.ensures operator ps _ h (c.special_value.ensures x k)

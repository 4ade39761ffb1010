use Rattle.cedar_conversion.proofs.answer.gather.Goals as goal

pub returns-in-Ok-Expr : goal.returns-in-Ok-Expr
returns-in-Ok-Expr g c operator ps x h k = c.more.ensures operator ps _ h (c.made_value.ensures x k)

pub returns-in_default : goal.returns-in_default
returns-in_default g c operator ps x h k = c.gather_special.ensures operator ps x h k

use Rattle.cedar_conversion.proofs.Outcomes.{alike_grown}
use Rattle.cedar_conversion.proofs.answer.gather_value.Goals as goal

pub returns-in-Ok-Expr : goal.returns-in-Ok-Expr
returns-in-Ok-Expr g c operator ps x h k = alike_grown operator g.B.ExprBuilderInfallibleBuild.meaning _ _ _ ps _ h (c.made_value.ensures x k) c.add.ensures

pub returns-in_default : goal.returns-in_default
returns-in_default g c operator ps x h k = alike_grown operator g.B.ExprBuilderInfallibleBuild.meaning _ _ _ ps _ h (c.special_value.ensures x k) c.add-in_default.ensures

use Rattle.std.proofs.Common.{refl, ◌∙◌}
use Rattle.cedar_conversion.proofs.Outcomes.{gives_at, passed_on}
use Rattle.cedar_policy_conversion.proofs.LonePrimaries as lone
use Rattle.cedar_policy_conversion.proofs.single_primary.expr_primary.Goals as goal

pub loop-inner-init : goal.loop-inner-init
loop-inner-init c = c.in_ok-primary.ensures.0

pub loop-inner-preserved : goal.loop-inner-preserved
loop-inner-preserved c = c.loop-inner.invariant ∙ lone.parens_primary _ _ _ c.in-Some.ensures refl ∙ c.in_ok-primary-2.ensures.0

pub loop-inner-smaller : goal.loop-inner-smaller
loop-inner-smaller c = lone.opened_lighter _ _ _ c.in-Some.ensures c.in_ok-primary-2.ensures.1

pub returns : goal.returns
returns c = gives_at _ _ _ _ c.loop-inner.invariant (c.bare.ensures c.in_default.ensures)

pub returns-in_err-primary-2 : goal.returns-in_err-primary-2
returns-in_err-primary-2 c =
    gives_at _ c.from_residual-in_err-primary-2.result _ _ (c.loop-inner.invariant ∙ lone.parens_primary _ _ _ c.in-Some.ensures refl)
    (passed_on _ c.from_residual-in_err-primary-2.result c.in_err-primary-2.field-0.0 _ c.from_residual-in_err-primary-2.ensures.1 c.in_err-primary-2.ensures)

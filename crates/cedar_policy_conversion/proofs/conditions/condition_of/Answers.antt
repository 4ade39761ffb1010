use Rattle.cedar_expressions.specs.Meaning.{unplaced}
use Rattle.cedar_policy_conversion.proofs.ConditionValues.{value_there}
use Rattle.cedar_conversion.proofs.Outcomes.{passed_on, refused_next, wanting}
use Rattle.cedar_policy_conversion.proofs.conditions.condition_of.Goals as goal

pub returns-in_err-when : goal.returns-in_err-when
returns-in_err-when c = passed_on unplaced c.from_residual.result c.in_err-when.field-0.0 _ c.from_residual.ensures.1 (refused_next c.in_err-when.field-0.0 _ _ c.in_err-when.ensures)

pub returns-in_err-expr : goal.returns-in_err-expr
returns-in_err-expr c = passed_on unplaced c.from_residual-in_err-expr.result c.in_err-expr.field-0.0 _ c.from_residual-in_err-expr.ensures.1 (rw c.in_ok-when.ensures (refused_next c.in_err-expr.field-0.0 _ _ c.in_err-expr.ensures))

pub returns-in_err-refuse_slots_of : goal.returns-in_err-refuse_slots_of
returns-in_err-refuse_slots_of c = passed_on unplaced c.from_residual-in_err-refuse_slots_of.result c.in_err-refuse_slots_of.field-0.0 _ c.from_residual-in_err-refuse_slots_of.ensures.1 (rw (c.in_ok-when.ensures, c.in_ok-expr.ensures) (refused_next c.in_err-refuse_slots_of.field-0.0 _ _ c.in_err-refuse_slots_of.ensures))

pub returns-in_err-condition_value : goal.returns-in_err-condition_value
returns-in_err-condition_value c = wanting unplaced c.from_residual-in_err-condition_value.result _ c.from_residual-in_err-condition_value.ensures.1

pub returns : goal.returns
returns c =
    rw (c.in_ok-when.ensures, c.in_ok-expr.ensures)
    (value_there c.args.site.loc.now c.in_ok-when.when c.in_ok-expr.expr c.in_ok-condition_value.field-0 _ c.in_ok-refuse_slots_of.ensures c.in_ok-condition_value.ensures)

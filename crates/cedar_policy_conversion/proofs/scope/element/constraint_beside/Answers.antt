use Rattle.cedar_conversion.specs.outcome.Seen.{itself}
use Rattle.cedar_conversion.specs.strict.Table.{table_of}
use Rattle.cedar_conversion.proofs.Outcomes.{gives_at}
use Rattle.cedar_policy_conversion.specs.References.{entity_or_slot}
use Rattle.cedar_policy_conversion.proofs.LoneValues.{made_right}
use Rattle.cedar_policy_conversion.proofs.scope.element.constraint_beside.Goals as goal

pub returns-in-Ok : goal.returns-in-Ok
returns-in-Ok c =
    gives_at itself c.operator_constraint.result _ _
    (made_right (table_of c.args.site.styles.now) entity_or_slot c.args.var c.args.ineq.now.0 c.args.ineq.now.1 c.in-Ok.reference _ _ (rw c.in-Ok.is at c.to_ref_or_refs-answer.ensures))
    c.operator_constraint.ensures

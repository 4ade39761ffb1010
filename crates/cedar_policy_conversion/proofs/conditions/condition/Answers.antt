use Rattle.cedar_expressions.specs.Meaning.{unplaced}
use Rattle.cedar_conversion.specs.strict.Table.{table_of}
use Rattle.cedar_conversion.proofs.Outcomes.{given_next, gives_at, passed_on, refused_next}
use Rattle.cedar_policy_conversion.specs.Conditions.{condition_of}
use Rattle.cedar_policy_conversion.proofs.conditions.condition.Goals as goal

pub returns-in_err-content : goal.returns-in_err-content
returns-in_err-content c = passed_on unplaced c.from_residual.result c.in_err-content.field-0.0 _ c.from_residual.ensures.1 (refused_next c.in_err-content.field-0.0 _ _ c.in_err-content.ensures)

pub returns : goal.returns
returns c = gives_at unplaced c.condition_of.result _ _ (given_next _ _ (condition_of (table_of c.args.styles.now) c.args.node.now.loc) c.in_ok-content.ensures) c.condition_of.ensures

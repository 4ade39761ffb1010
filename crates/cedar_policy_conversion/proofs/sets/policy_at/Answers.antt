use Rattle.std.proofs.Common.{subst}
use Rattle.cedar_policy_conversion.specs.Policies.{either_outcome, either_parts}
use Rattle.cedar_conversion.specs.outcome.Seen.{Gives}
use Rattle.cedar_conversion.specs.strict.Table.{table_of}
use Rattle.cedar_policy_conversion.proofs.sets.policy_at.Goals as goal

pub returns : goal.returns
returns c = subst (λ id. Gives either_parts c.static_or_template.result (either_outcome (table_of c.args.styles.now) id c.args.node.now)) c.in_ok-id.ensures c.static_or_template.ensures

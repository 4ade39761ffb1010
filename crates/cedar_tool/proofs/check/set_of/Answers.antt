use Rattle.cedar_conversion.specs.strict.Table.{table_of}
use Rattle.cedar_policy_store.specs.PlaceFree.{set_meaning}
use Rattle.cedar_tool.proofs.Judging.{set_meant, set_only}
use Rattle.cedar_tool.proofs.check.set_of.Goals as goal

pub returns-clause-meant : goal.returns-clause-meant
returns-clause-meant c = set_meant (table_of c.args.styles.now) c.args.text.now set_meaning c.parse_policyset.result c.parse_policyset.ensures.value

pub returns-clause-only : goal.returns-clause-only
returns-clause-only c = set_only (table_of c.args.styles.now) c.args.text.now set_meaning c.parse_policyset.result c.parse_policyset.ensures.only

pub returns-clause-set : goal.returns-clause-set
returns-clause-set c = c.parse_policyset.ensures.value

pub returns-clause-refused : goal.returns-clause-refused
returns-clause-refused c = c.parse_policyset.ensures.refused

use Rattle.cedar_policy_parser.proofs.ParsedSets.{tree_found}
use Rattle.cedar_policy_parser.proofs.complete.Sets.{set_read}
use Rattle.cedar_policy_parser.proofs.policy_laws.meant_is_set.Goals as goal

pub returns-clause-tokens : goal.returns-clause-tokens
returns-clause-tokens c e src ts set h = let d = set_read e src h in (d.tree, d.reads, d.gives)

pub returns-clause-text : goal.returns-clause-text
returns-clause-text c e text ts set cut h = let d = tree_found e text ts set cut h in (d.tree, d.stands, d.gives)

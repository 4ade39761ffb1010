use Rattle.cedar_policy_parser.proofs.standing.InBlocks.{policy_blocks, set_blocks}
use Rattle.cedar_policy_parser.proofs.policy_laws.blocks.Goals as goal

pub returns-clause-set : goal.returns-clause-set
returns-clause-set c = set_blocks

pub returns-clause-policy : goal.returns-clause-policy
returns-clause-policy c = policy_blocks

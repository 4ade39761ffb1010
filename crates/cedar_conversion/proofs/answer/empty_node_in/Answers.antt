use Rattle.cedar_conversion.specs.outcome.Held.{Held}
use Rattle.cedar_conversion.specs.outcome.Outcome.{empty_node}
use Rattle.cedar_conversion.proofs.Outcomes.{refused_at}
use Rattle.cedar_conversion.proofs.answer.empty_node_in.Goals as goal

pub returns : goal.returns
returns g c = rw c.put.ensures (refused_at Held c.empty_node.result empty_node c.args.loc.now c.empty_node.ensures)

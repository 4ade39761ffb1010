use Rattle.cedar_conversion.specs.machines.Applied.{seen_attributes}
use Rattle.cedar_conversion.proofs.Outcomes.{gives_at, refuses}
use Rattle.cedar_conversion.proofs.RightSides.{whole_side, no_whole_side}
use Rattle.cedar_conversion.proofs.operators.has_side.right_side.Goals as goal

pub returns-in-Some : goal.returns-in-Some
returns-in-Some g c = gives_at seen_attributes c.of_add.result _ _ (whole_side c.args.node.now _ c.in-Some.is) c.of_add.ensures

pub returns-in-None : goal.returns-in-None
returns-in-None g c = refuses c.empty_node.result _ _ _ (no_whole_side c.args.node.now c.in-None.is) c.empty_node.ensures

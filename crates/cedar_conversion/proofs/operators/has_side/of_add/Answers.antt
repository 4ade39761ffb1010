use Rattle.cedar_conversion.specs.machines.Applied.{seen_attributes}
use Rattle.cedar_conversion.proofs.Outcomes.{gives_at, refuses}
use Rattle.cedar_conversion.proofs.RightSides.{add_side, on_none, on_part}
use Rattle.cedar_conversion.proofs.operators.has_side.of_add.Goals as goal

pub returns-in-Some : goal.returns-in-Some
returns-in-Some g c = gives_at seen_attributes c.of_mult.result _ _ (on_part c.args.side.loc.now _ _ _ (add_side c.args.side.loc.now c.args.side.tree.now) (rw c.in-Some.is at c.single_child.ensures.part)) c.of_mult.ensures

pub returns-in-None : goal.returns-in-None
returns-in-None g c = refuses c.invalid_has_rhs.result _ _ _ (on_none c.args.side.loc.now _ _ (add_side c.args.side.loc.now c.args.side.tree.now) (rw c.in-None.is at c.single_child.ensures.part)) c.invalid_has_rhs.ensures

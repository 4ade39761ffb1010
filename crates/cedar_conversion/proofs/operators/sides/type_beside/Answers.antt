use Rattle.cedar_conversion.specs.outcome.Conversion.{beside_type}
use Rattle.cedar_conversion.specs.outcome.Seen.{itself}
use Rattle.cedar_conversion.specs.machines.Applied.{seen_type}
use Rattle.cedar_conversion.proofs.Outcomes.{both_gives, given_next, gives_at}
use Rattle.cedar_conversion.proofs.operators.sides.type_beside.Goals as goal

pub returns : goal.returns
returns g c x h k l =
    let m = g.B.ExprBuilderInfallibleBuild.meaning in
    let right = rw c.in_ok-right.was at l in
    gives_at (seen_type m) c.flatten_tuple_2.result _ _ (given_next h _ (beside_type x) right)
    (both_gives m itself c.args.target c.into_entity_type.result c.flatten_tuple_2.result x _ c.flatten_tuple_2.ensures.both c.flatten_tuple_2.ensures.faults k c.into_entity_type.ensures)

use Rattle.cedar_conversion.specs.machines.Applied.{seen_pattern}
use Rattle.cedar_conversion.proofs.Identifiers.{listed_nodes}
use Rattle.cedar_conversion.proofs.Outcomes.{both_gives, given_next, gives_at}
use Rattle.cedar_conversion.proofs.operators.sides.pattern_beside.Goals as goal

pub returns : goal.returns
returns g c x h k l =
    let m = g.B.ExprBuilderInfallibleBuild.meaning in
    let right = rw c.in_ok-right.was at l in
    gives_at (seen_pattern m) c.flatten_tuple_2.result _ _ (given_next h _ _ right)
    (both_gives m listed_nodes c.args.target c.into_pattern-pattern.result c.flatten_tuple_2.result x _ c.flatten_tuple_2.ensures.both c.flatten_tuple_2.ensures.faults k c.into_pattern-pattern.ensures)

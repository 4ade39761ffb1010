use Rattle.cedar_conversion.specs.outcome.Seen.{itself}
use Rattle.cedar_conversion.specs.machines.Applied.{seen_pair}
use Rattle.cedar_conversion.proofs.Outcomes.{both_gives, given_next, gives_at}
use Rattle.cedar_conversion.proofs.primaries.collections.pair_from.Goals as goal

pub returns : goal.returns
returns g c h x l k =
    let m = g.B.ExprBuilderInfallibleBuild.meaning in
    let key = rw c.in_ok-key.was at l in
    gives_at (seen_pair m) c.flatten_tuple_2.result _ _ (given_next h _ _ key)
    (both_gives itself m c.into_attribute-attribute.result c.args.value c.flatten_tuple_2.result _ x c.flatten_tuple_2.ensures.both c.flatten_tuple_2.ensures.faults c.into_attribute-attribute.ensures k)

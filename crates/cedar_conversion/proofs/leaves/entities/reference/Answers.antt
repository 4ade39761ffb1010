use Rattle.cedar_conversion.specs.outcome.Seen.{itself}
use Rattle.cedar_conversion.proofs.Outcomes.{both_refused, passed_on, refused_next}
use Rattle.cedar_conversion.proofs.leaves.entities.reference.Goals as goal

pub returns-in_err-path-in-Uid : goal.returns-in_err-path-in-Uid
returns-in_err-path-in-Uid c =
    let refused = both_refused itself itself c.name_of.result c.id_of.result _ _ c.in_err-path-in-Uid.field-0.0 c.name_of.ensures c.id_of.ensures c.in_err-path-in-Uid.ensures.faults in
    rw c.in-Uid.is (passed_on itself c.from_residual.result c.in_err-path-in-Uid.field-0.0 _ c.from_residual.ensures.1 (refused_next c.in_err-path-in-Uid.field-0.0 _ _ refused))

use Rattle.cedar_conversion.specs.outcome.Seen.{itself}
use Rattle.cedar_conversion.proofs.Identifiers.{listed_nodes}
use Rattle.cedar_conversion.proofs.Outcomes.{both_refused, passed_on, refused_next}
use Rattle.cedar_conversion.proofs.leaves.names.name_at.Goals as goal

pub returns-in_err-last : goal.returns-in_err-last
returns-in_err-last c =
    let refused = both_refused itself listed_nodes c.valid_id-last.result c.path_of-path.result _ _ c.in_err-last.field-0.0 c.valid_id-last.ensures (rw c.as_slice.ensures at c.path_of-path.ensures) c.in_err-last.ensures.faults in
    passed_on itself c.from_residual.result c.in_err-last.field-0.0 _ c.from_residual.ensures.1 (refused_next c.in_err-last.field-0.0 _ _ refused)

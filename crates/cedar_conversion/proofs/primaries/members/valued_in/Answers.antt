use Rattle.cedar_conversion.proofs.Outcomes.{gives_at}
use Rattle.cedar_conversion.proofs.primaries.members.valued_in.Goals as goal

pub returns-in-Ok : goal.returns-in-Ok
returns-in-Ok g c x a all h k = rw c.put.ensures (gives_at _ _ _ _ (rw c.in-Ok.is at (c.of_value.ensures x a all h k)) c.expr_at.ensures)

pub returns-in-Err : goal.returns-in-Err
returns-in-Err g c x a all h k = rw c.put-in-Err.ensures (rw c.in-Err.is at (c.of_value.ensures x a all h k))

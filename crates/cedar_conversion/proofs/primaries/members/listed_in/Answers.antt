use Rattle.cedar_conversion.proofs.primaries.members.listed_in.Goals as goal

pub returns-in-Ok : goal.returns-in-Ok
returns-in-Ok g c x h = rw c.in-Ok.ensures at (c.accessed_in.ensures x h)

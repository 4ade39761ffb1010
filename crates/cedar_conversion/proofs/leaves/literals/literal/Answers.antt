use Rattle.cedar_conversion.proofs.leaves.literals.literal.Goals as goal

pub returns-in-Some-True : goal.returns-in-Some-True
returns-in-Some-True g c = rw (c.in-Some-True.is, rw c.in-Some-True.is at c.in-Some-True.field-0-is) c.truth_in.ensures

pub returns-in-Some-False : goal.returns-in-Some-False
returns-in-Some-False g c = rw (c.in-Some-False.is, rw c.in-Some-False.is at c.in-Some-False.field-0-is) c.truth_in-in-Some-False.ensures

pub returns-in-Some-Str : goal.returns-in-Some-Str
returns-in-Some-Str g c = rw (c.in-Some-Str.is, rw c.in-Some-Str.is at c.in-Some-Str.field-0-is) c.string_in.ensures

use Rattle.std.proofs.Common.{◌≡◌, []}
use Rattle.cedar_conversion.proofs.Fields.{fields_left}
use Rattle.cedar_conversion.proofs.operators.has_side.fields_of.Given as goal

abbrev pub invariant-loop-access : goal.invariant-loop-access
invariant-loop-access l = fields_left l.accesses 0 [] ≡ fields_left l.accesses l.access-index l.all.items

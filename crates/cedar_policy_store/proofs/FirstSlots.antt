-- No first slot is no slot.
use Rattle.std.proofs.Common.{◌≡◌, [], ◌∷◌, None, refl, slice_get}
use Rattle.cedar_expressions.specs.Slots.{Slots}

pub none_at_all : (a : Slots) → slice_get a 0 ≡ None → a ≡ []
none_at_all [] e = refl
none_at_all (x ∷ a) e = cc

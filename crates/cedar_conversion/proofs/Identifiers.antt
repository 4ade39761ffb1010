-- The identifiers of a name, one longer at the end.
use Rattle.std.proofs.Common.{◌≡◌, ◌<◌, ◌+◌, ℕ, List, [], ◌∷◌, ◌++◌, take, length, get_or, Ok, ap, ◌∙◌}
use Rattle.std.specs.declared.vec.Vec.{Vec}
use Rattle.std.specs.declared.alloc.Global.{Global}
use Rattle.cedar_conversion.specs.parts.Names.{all_of}
use Rattle.cedar_conversion.specs.outcome.Outcome.{Outcome, both, next, item_more}
use Rattle.cedar_conversion.proofs.Gathered.{last, shifted}
use Rattle.cedar_conversion.proofs.Loops.{take_next}

abbrev pub listed_nodes : {A : Type 0} → Vec A Global → List A
listed_nodes v = v.items

pub all_snoc : {X Y : Type 0} (f : X → Outcome Y) (xs : List X) (x : X) → all_of f (xs ++ x ∷ []) ≡ item_more (all_of f xs) (f x)
all_snoc f [] x = last (f x)
all_snoc f (y ∷ ys) x = ap (λ o. next (both (f y) o) (λ p. Ok (p.0 ∷ p.1))) (all_snoc f ys x) ∙ shifted (f y) (all_of f ys) (f x)

-- one identifier more than those that a loop has gone over
pub all_next : {X Y : Type 0} (f : X → Outcome Y) (xs : List X) (i : ℕ) (x : X) → i < length xs → x ≡ get_or xs i x → all_of f (take (i + 1) xs) ≡ item_more (all_of f (take i xs)) (f x)
all_next f xs i x h k = rw (take_next xs i x h k) (all_snoc f (take i xs) x)

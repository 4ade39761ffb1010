use Rattle.std.proofs.Common.{◌≡◌, ◌++◌, map, take}
use Rattle.cedar_expressions.proofs.copy.copy_marked.Given as goal

abbrev pub invariant-loop-item : goal.invariant-loop-item
invariant-loop-item g l = (l.fn.copies ≡ map (λ t. t.1) l.all ++ l.copies) × (map (λ t. t.0) l.all ≡ map (λ t. t.0) (take l.item-index l.item-items))

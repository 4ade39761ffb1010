use Rattle.std.proofs.Common.{◌≡◌, ◌++◌, List}
use Rattle.std.specs.FinMap.{entries}
use Rattle.cedar_answers.specs.Made.{annotations_made}
use Rattle.cedar_answers.proofs.Annotating.{Pair, pairs_told}
use Rattle.cedar_answers.proofs.annotations.made_annotations.Given as goal

-- the annotations before the iterator's place are made
abbrev pub invariant-loop-key : goal.invariant-loop-key
invariant-loop-key l =
    (done : List Pair) × (entries l.annotations ≡ done ++ l.key-iterator) × (annotations_made l.all.items ≡ pairs_told done)

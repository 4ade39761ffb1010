-- No key stood twice so far, and those that stood are known.
use Rattle.std.proofs.Common.{◌≡◌, false, map, take}
use Rattle.std.specs.BTreeSet.{contains}
use Rattle.std.specs.List.{list_any}
use Rattle.std.specs.Str.{bytes_eq}
use Rattle.std.specs.Cmp.Lexicographic.{slice_cmp}
use Rattle.std.specs.Ordering.{nat_cmp}
use Rattle.cedar_expressions.specs.Keys.{repeats_key}
use Rattle.cedar_writer.proofs.records.repeats_key.Given as goal

abbrev pub invariant-loop-key : goal.invariant-loop-key
invariant-loop-key l =
    (repeats_key (map (λ p. p.0) (take l.key-index l.pairs)) ≡ false)
    × ((q : _) → contains (λ x y. slice_cmp nat_cmp x.now y.now) l.seen q ≡ list_any (bytes_eq q.now) (map (λ p. p.0) (take l.key-index l.pairs)))

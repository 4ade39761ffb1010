use Rattle.std.proofs.Common.{◌≡◌, ◌++◌}
use Rattle.std.specs.List.{flat_map}
use Rattle.cedar_syntax.specs.trees.Forms.{located, add_form}
use Rattle.cedar_conversion.specs.machines.Nested.{nested, lent_nodes}
use Rattle.cedar_conversion.proofs.listing.in_sides.Given as goal

abbrev pub invariant-loop-part : goal.invariant-loop-part
invariant-loop-part l =
    flat_map (λ p. nested (located add_form p.1)) l.part-iterator.iter.rest.now ++ lent_nodes l.all
    ≡ flat_map (λ p. nested (located add_form p.1)) l.initial.parts ++ lent_nodes l.initial.all

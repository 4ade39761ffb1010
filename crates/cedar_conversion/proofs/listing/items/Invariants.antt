use Rattle.std.proofs.Common.{◌≡◌, ◌++◌, map}
use Rattle.cedar_syntax.specs.trees.Forms.{located, expr_form}
use Rattle.cedar_conversion.specs.machines.Nested.{lent_nodes}
use Rattle.cedar_conversion.proofs.listing.items.Given as goal

abbrev pub invariant-loop-part : goal.invariant-loop-part
invariant-loop-part l =
    map (located expr_form) l.part-iterator.iter.rest.now ++ lent_nodes l.all
    ≡ map (located expr_form) l.initial.parts ++ lent_nodes l.initial.all

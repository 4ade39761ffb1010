use Rattle.std.proofs.Common.{sym, ◌∙◌}
use Rattle.cedar_conversion.proofs.Bare.{accessed, bare}
use Rattle.cedar_conversion.proofs.leaves.literals.literal_of.Goals as goal

pub returns-in-Some-single_child : goal.returns-in-Some-single_child
returns-in-Some-single_child c = c.literal_alone.ensures ∙ sym (bare c.args.node.now _ _ c.in-Some.is (rw c.in-Some-single_child.is at c.single_child.ensures.part))

pub returns-in-None-single_child : goal.returns-in-None-single_child
returns-in-None-single_child c = sym (accessed c.args.node.now _ c.in-Some.is (rw c.in-None-single_child.is at c.single_child.ensures.part))

use Rattle.std.proofs.Common.{ap, sym, ◌∙◌}
use Rattle.cedar_syntax.specs.trees.Forms.{primary_form, listed_access}
use Rattle.cedar_syntax.proofs.FormLevels.{member_out}
use Rattle.cedar_conversion.specs.outcome.LonePart.{lone_part}
use Rattle.cedar_conversion.proofs.LoneParts.{only_below, only_of_member}
use Rattle.cedar_conversion.proofs.operators.single_child.MemberSingleChild.single_child.Goals as goal

pub returns-clause-part : goal.returns-clause-part
returns-clause-part c = only_of_member primary_form _ listed_access c.args.self.now.access c.only.result (rw c.as_slice.ensures at c.only.ensures) ∙ sym (ap lone_part (member_out c.args.self.now))

pub returns-clause-below : goal.returns-clause-below
returns-clause-below c = only_below c.args.self.now.item _ c.only.result c.only.ensures

use Rattle.std.proofs.Common.{ap, sym, ◌∙◌}
use Rattle.cedar_syntax.specs.trees.Forms.{relation_form, and_operand}
use Rattle.cedar_syntax.specs.trees.Tree.{conjunction}
use Rattle.cedar_syntax.proofs.FormLevels.{and_out}
use Rattle.cedar_conversion.specs.outcome.LonePart.{lone_part}
use Rattle.cedar_conversion.proofs.LoneParts.{only_below, only_of_chain}
use Rattle.cedar_conversion.proofs.operators.single_child.AndSingleChild.single_child.Goals as goal

pub returns-clause-part : goal.returns-clause-part
returns-clause-part c = only_of_chain conjunction relation_form _ and_operand c.args.self.now.extended c.only.result (rw c.as_slice.ensures at c.only.ensures) ∙ sym (ap lone_part (and_out c.args.self.now))

pub returns-clause-below : goal.returns-clause-below
returns-clause-below c = only_below c.args.self.now.initial _ c.only.result c.only.ensures

use Rattle.std.proofs.Common.{ap, sym, ◌∙◌}
use Rattle.cedar_syntax.specs.declared.cst.Mult.{out-Mult}
use Rattle.cedar_syntax.specs.trees.Forms.{unary_form, mult_operand}
use Rattle.cedar_syntax.specs.trees.Tree.{product}
use Rattle.cedar_syntax.proofs.FormLevels.{mult_out}
use Rattle.cedar_conversion.specs.outcome.LonePart.{lone_part}
use Rattle.cedar_conversion.proofs.LoneParts.{only_below, only_of_chain}
use Rattle.cedar_conversion.proofs.operators.single_child.MultSingleChild.single_child.Goals as goal

pub returns-clause-part : goal.returns-clause-part
returns-clause-part c = only_of_chain product unary_form _ mult_operand (out-Mult c.args.self.now).extended c.only.result (rw c.as_slice.ensures at c.only.ensures) ∙ sym (ap lone_part (mult_out c.args.self.now))

pub returns-clause-below : goal.returns-clause-below
returns-clause-below c = only_below (out-Mult c.args.self.now).initial _ c.only.result c.only.ensures

use Rattle.cedar_grammar.specs.machines.Machine.{outline_machine, no_tree}
use Rattle.cedar_expression_machine.specs.declared.expression.state.StartSymbol.TheVariants as form
use Rattle.cedar_expression_machine.specs.machines.WholeExpressions.{state_shape, whole_outline, whole_primary_reader}
use Rattle.cedar_expression_machine.proofs.machines.WholeExpressions.{primaries_read, whole_primaries_shaped}
use Rattle.cedar_text.proofs.machines.TextRules.{text_rule}
use Rattle.cedar_text.proofs.text_to_cst.laws.primaries.Goals as goal

pub returns : goal.returns
returns c = text_rule _ _ whole_primary_reader (outline_machine (whole_outline form.Primary)) (λ s. state_shape s) no_tree primaries_read whole_primaries_shaped

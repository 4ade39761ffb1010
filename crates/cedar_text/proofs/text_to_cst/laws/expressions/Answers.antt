use Rattle.cedar_grammar.specs.machines.Machine.{outline_machine, no_tree}
use Rattle.cedar_expression_machine.specs.declared.expression.state.StartSymbol.TheVariants as form
use Rattle.cedar_expression_machine.specs.machines.WholeExpressions.{state_shape, whole_outline, whole_expression_reader}
use Rattle.cedar_expression_machine.proofs.machines.WholeExpressions.{expressions_read, whole_expressions_shaped}
use Rattle.cedar_text.proofs.machines.TextRules.{text_rule}
use Rattle.cedar_text.proofs.text_to_cst.laws.expressions.Goals as goal

pub returns : goal.returns
returns c = text_rule _ _ whole_expression_reader (outline_machine (whole_outline form.Expr)) (λ s. state_shape s) no_tree expressions_read whole_expressions_shaped

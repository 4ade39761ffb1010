use Rattle.cedar_grammar.specs.machines.Machine.{no_tree}
use Rattle.cedar_expression_machine.specs.machines.WordShapes.{name_shapes, path_shape}
use Rattle.cedar_expression_machine.specs.machines.Words.{name_reader}
use Rattle.cedar_expression_machine.proofs.machines.NamesRead.{names_read}
use Rattle.cedar_expression_machine.proofs.machines.WordShapes.{names_shaped}
use Rattle.cedar_text.proofs.machines.TextRules.{text_rule}
use Rattle.cedar_text.proofs.text_to_cst.laws.names.Goals as goal

pub returns : goal.returns
returns c = text_rule _ _ name_reader name_shapes path_shape no_tree names_read names_shaped

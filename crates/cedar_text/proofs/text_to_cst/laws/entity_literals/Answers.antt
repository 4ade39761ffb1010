use Rattle.cedar_grammar.specs.machines.Machine.{no_tree}
use Rattle.cedar_expression_machine.specs.machines.WordShapes.{ref_shapes, words_shape}
use Rattle.cedar_expression_machine.specs.machines.Words.{ref_reader}
use Rattle.cedar_expression_machine.proofs.machines.NamesRead.{refs_read}
use Rattle.cedar_expression_machine.proofs.machines.WordShapes.{refs_shaped}
use Rattle.cedar_text.proofs.machines.TextRules.{text_rule}
use Rattle.cedar_text.proofs.text_to_cst.laws.entity_literals.Goals as goal

pub returns : goal.returns
returns c = text_rule _ _ ref_reader ref_shapes words_shape no_tree refs_read refs_shaped

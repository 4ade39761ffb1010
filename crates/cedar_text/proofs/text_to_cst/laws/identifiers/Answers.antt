use Rattle.cedar_grammar.specs.machines.Machine.{no_tree}
use Rattle.cedar_expression_machine.specs.machines.WordShapes.{ident_shapes, ident_shape}
use Rattle.cedar_expression_machine.specs.machines.Words.{ident_reader}
use Rattle.cedar_expression_machine.proofs.machines.NamesRead.{idents_read}
use Rattle.cedar_expression_machine.proofs.machines.WordShapes.{idents_shaped}
use Rattle.cedar_text.proofs.machines.TextRules.{text_rule}
use Rattle.cedar_text.proofs.text_to_cst.laws.identifiers.Goals as goal

pub returns : goal.returns
returns c = text_rule _ _ ident_reader ident_shapes ident_shape no_tree idents_read idents_shaped

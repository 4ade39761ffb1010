use Rattle.cedar_expression_machine.proofs.machines.WordsParser.{paths_parser, words_parser, words_outside}
use Rattle.cedar_expression_machine.proofs.machines.WordShapes.{paths_shaped, words_shaped}
use Rattle.cedar_expression_machine.proofs.laws.words_are_parsed.Goals as goal

pub returns-clause-paths : goal.returns-clause-paths
returns-clause-paths c = paths_parser

pub returns-clause-shapes_of_paths : goal.returns-clause-shapes_of_paths
returns-clause-shapes_of_paths c = paths_shaped

pub returns-clause-words : goal.returns-clause-words
returns-clause-words c = words_parser

pub returns-clause-shapes_of_words : goal.returns-clause-shapes_of_words
returns-clause-shapes_of_words c = words_shaped

pub returns-clause-outside : goal.returns-clause-outside
returns-clause-outside c = words_outside

-- The shapes of words, as the shapes of expressions ask for them.
use Rattle.std.specs.Prelude.{Bool, true, false}
use Rattle.cedar_expression_machine.specs.machines.ExpressionShapes.{WordOutline}
use Rattle.cedar_expression_machine.specs.machines.WordShapes.{PathKind, truth, condition, a_name, WordsShape, WordsKind, a_path, an_entity, words_outline}

-- a path is the word `if` alone
abbrev pub is_condition : PathKind → Bool
is_condition truth = false
is_condition condition = true
is_condition a_name = false

abbrev pub is_if_alone : WordsKind → Bool
is_if_alone (a_path c) = is_condition c
is_if_alone an_entity = false

abbrev pub named_outline : WordOutline WordsShape WordsKind
named_outline = record { outline = words_outline; is_if = is_if_alone }

-- How a whole text is read as an expression and as a primary, and a part of a policy as an
-- expression and as a sum.
use Rattle.std.specs.Prelude.{◌≡◌, ℕ, Bool, List, Some}
use Rattle.cedar_lexer.specs.Token.{Lexeme}
use Rattle.cedar_lexer.specs.declared.token.TokenKind.{TokenKind}
use Rattle.cedar_syntax.specs.declared.cst.Add.{Add}
use Rattle.cedar_syntax.specs.declared.cst.Expr.{Expr}
use Rattle.cedar_syntax.specs.declared.cst.Primary.{Primary}
use Rattle.cedar_expression_machine.specs.declared.expression.state.State.{State}
use Rattle.cedar_expression_machine.specs.declared.expression.state.Act.{Act}
use Rattle.cedar_expression_machine.specs.declared.expression.state.StartSymbol.{StartSymbol}
use Rattle.cedar_syntax.specs.trees.Trees.{Cell}
use Rattle.cedar_expression_machine.specs.machines.Closing.{node_of}
use Rattle.cedar_grammar.specs.machines.Machine.{Machine, Reader, Outline, machine_of}
use Rattle.cedar_expression_machine.specs.machines.Expressions.{expression_reader, sum_reader, primary_reader}
use Rattle.cedar_expression_machine.specs.machines.Keeping.{kept_reader}
use Rattle.cedar_expression_machine.specs.machines.ExpressionShapes.{Shape, shape_of}
use Rattle.cedar_expression_machine.specs.machines.ExpressionPlans.{shape_plan, shape_ends}
use Rattle.cedar_expression_machine.specs.machines.ExpressionOutline.{expression_outline}
use Rattle.cedar_expression_machine.specs.machines.Named.{named_reader}
use Rattle.cedar_expression_machine.specs.machines.NamedShapes.{named_outline}
use Rattle.cedar_expression_machine.specs.machines.WordShapes.{WordsShape, words_shape}

-- what of a state decides which kinds may come next
abbrev pub StateShape : Type 0
StateShape = Shape WordsShape

abbrev pub state_shape : State → StateShape
state_shape s = shape_of words_shape s

abbrev pub state_ends : State → Bool
state_ends s = shape_ends named_outline (state_shape s)

abbrev pub whole_expression_reader : Reader State Act (Cell Expr)
whole_expression_reader = kept_reader (λ src x. Some (node_of src x)) (λ s. state_ends s)
    (expression_reader named_reader named_outline words_shape)

abbrev pub whole_sum_reader : Reader State Act (Cell Add)
whole_sum_reader = kept_reader (λ src x. Some (node_of src x)) (λ s. state_ends s)
    (sum_reader named_reader named_outline words_shape)

abbrev pub whole_primary_reader : Reader State Act (Cell Primary)
whole_primary_reader = primary_reader named_reader named_outline words_shape

abbrev pub whole_expressions : List ℕ → Machine Lexeme State (Cell Expr)
whole_expressions src = machine_of src whole_expression_reader

abbrev pub whole_sums : List ℕ → Machine Lexeme State (Cell Add)
whole_sums src = machine_of src whole_sum_reader

abbrev pub whole_primaries : List ℕ → Machine Lexeme State (Cell Primary)
whole_primaries src = machine_of src whole_primary_reader

abbrev pub whole_outline : StartSymbol → Outline StateShape Act (Unit {0})
whole_outline w = expression_outline w named_outline

-- what is planned with a kind, in whichever form is wanted of the whole
abbrev pub IsPlanned : State → TokenKind → Act → Type 0
IsPlanned s k a = (w : StartSymbol) × (shape_plan w named_outline (state_shape s) k ≡ Some a)

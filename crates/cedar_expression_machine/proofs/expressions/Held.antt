-- What the machines of expressions ask of the words that they hold.
use Rattle.std.proofs.Common.{◌≡◌, ℕ, List}
use Rattle.cedar_grammar.specs.machines.Machine.{Reader, machine_of, IsParser, IsOutline}
use Rattle.cedar_expression_machine.specs.declared.words.state.WordsAct.{WordsAct}
use Rattle.cedar_expression_machine.specs.declared.words.state.WordsState.{WordsState}
use Rattle.cedar_expression_machine.specs.machines.Named.{NameOrEntity, ReadsNamed}
use Rattle.cedar_expression_machine.specs.machines.Expressions.{named_is_if}
use Rattle.cedar_expression_machine.specs.machines.ExpressionShapes.{WordOutline}

pub record Held {W K : Type 0} (src : List ℕ) (names : Reader WordsState WordsAct NameOrEntity) (n : WordOutline W K) (f : WordsState → W) (g : NameOrEntity → K) : Type 0 where
  pub parser : IsParser (machine_of src names) (ReadsNamed src)
  pub outlined : IsOutline src names n.outline f g
  pub ifs : (x : NameOrEntity) → n.is_if (g x) ≡ named_is_if x

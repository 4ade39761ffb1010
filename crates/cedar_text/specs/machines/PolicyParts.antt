-- How one policy and policies are read as whole texts, over the readers of names, sums and
-- expressions.
use Rattle.std.specs.Prelude.{ℕ, List}
use Rattle.cedar_lexer.specs.Token.{Lexeme}
use Rattle.cedar_syntax.specs.declared.cst.Policy.{Policy}
use Rattle.cedar_syntax.specs.declared.cst.Policies.{Policies}
use Rattle.cedar_expression_machine.specs.declared.expression.state.Act.{Act}
use Rattle.cedar_expression_machine.specs.declared.expression.state.State.{State}
use Rattle.cedar_expression_machine.specs.declared.expression.state.StartSymbol.TheVariants as form
use Rattle.cedar_text.specs.declared.text_to_cst.whole_texts.WholePoliciesState.{WholePoliciesState}
use Rattle.cedar_policy_machine.specs.declared.sequence.SequenceAct.{SequenceAct}
use Rattle.cedar_policy_machine.specs.declared.sequence.SpannedState.{SpannedState}
use Rattle.cedar_expression_machine.specs.declared.words.state.PathAct.{PathAct}
use Rattle.cedar_expression_machine.specs.declared.words.state.PathState.{PathState}
use Rattle.cedar_syntax.specs.trees.Trees.{Cell}
use Rattle.cedar_grammar.specs.machines.Machine.{Machine, Reader, machine_of}
use Rattle.cedar_policy_machine.specs.machines.Placing.{policies_node, placing_reader, mapped_reader}
use Rattle.cedar_policy_machine.specs.machines.PartOutlines.{PartOutlines}
use Rattle.cedar_policy_machine.specs.machines.Policies.{SpannedPolicy, PoliciesState, OneAct, one_policy_reader, all_policies_reader}
use Rattle.cedar_policy_machine.specs.machines.Scope.{PartReaders, readers_of}
use Rattle.cedar_expression_machine.specs.machines.WholeExpressions.{StateShape, whole_expression_reader, whole_sum_reader, whole_outline}
use Rattle.cedar_expression_machine.specs.machines.Words.{name_reader}
use Rattle.cedar_expression_machine.specs.machines.WordShapes.{PathShape, name_outline}

-- the parts, and their outlines

abbrev pub policy_parts : PartReaders PathState State State PathAct Act Act
policy_parts = readers_of name_reader whole_sum_reader whole_expression_reader

abbrev pub policy_part_outlines : PartOutlines PathShape StateShape StateShape PathAct Act Act
policy_part_outlines = record {
  name = name_outline;
  sum = whole_outline form.Sum;
  expression = whole_outline form.Expr;
}

-- one policy as a whole text

abbrev pub WholePolicyState : Type 0
WholePolicyState = SpannedPolicy PathState State State

abbrev pub whole_policy_reader : Reader WholePolicyState (OneAct PathAct Act Act) (Cell Policy)
whole_policy_reader = one_policy_reader policy_parts

abbrev pub whole_policy : List ℕ → Machine Lexeme WholePolicyState (Cell Policy)
whole_policy src = machine_of src whole_policy_reader

-- and policies

abbrev pub TextState : Type 0
TextState = SpannedState (PoliciesState PathState State State)

abbrev pub inner_state : WholePoliciesState → TextState
inner_state s = s.text

abbrev pub whole_state : TextState → WholePoliciesState
whole_state s = record { text = s }

abbrev pub whole_policies_reader : Reader WholePoliciesState (SequenceAct (OneAct PathAct Act Act))
    (Cell Policies)
whole_policies_reader =
    mapped_reader inner_state whole_state (λ src x. policies_node src x)
    (placing_reader (all_policies_reader policy_parts))

abbrev pub whole_policies : List ℕ → Machine Lexeme WholePoliciesState (Cell Policies)
whole_policies src = machine_of src whole_policies_reader

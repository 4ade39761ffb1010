-- What a planned act makes of the state of an expression.
use Rattle.std.specs.Prelude.{cond}
use Rattle.std.proofs.Common.{◌≡◌, ℕ, List, [], ◌∷◌, Option, Some, None, refl}
use Rattle.cedar_lexer.specs.Token.{Lexeme}
use Rattle.cedar_grammar.specs.declared.reading.class.StartClass.{StartClass}
use Rattle.cedar_grammar.specs.declared.reading.class.StartClass.TheVariants as beginning
use Rattle.cedar_grammar.specs.declared.reading.class.FollowClass.{FollowClass}
use Rattle.cedar_expression_machine.specs.declared.expression.state.OperandPlace.TheVariants as place
use Rattle.cedar_grammar.specs.declared.reading.extent.Extent.{Extent}
use Rattle.cedar_expression_machine.specs.declared.words.state.WordsAct.{WordsAct}
use Rattle.cedar_expression_machine.specs.declared.words.state.WordsState.{WordsState}
use Rattle.cedar_expression_machine.specs.declared.expression.state.Act.{Act}
use Rattle.cedar_expression_machine.specs.declared.expression.state.Frame.{Frame}
use Rattle.cedar_expression_machine.specs.declared.expression.state.PendingOperators.{PendingOperators}
use Rattle.cedar_expression_machine.specs.declared.expression.state.Operand.{Operand}
use Rattle.cedar_expression_machine.specs.declared.expression.state.FollowSet.{FollowSet}
use Rattle.cedar_expression_machine.specs.declared.expression.state.State.{State}
use Rattle.cedar_expression_machine.specs.declared.expression.state.StartSymbol.{StartSymbol}
use Rattle.cedar_grammar.specs.machines.Machine.{Reader, machine_of, answer_state, done_answer, end_answer, planned_answer}
use Rattle.cedar_expression_machine.specs.machines.Named.{NameOrEntity}
use Rattle.cedar_expression_machine.specs.machines.ExpressionShapes.{FrameShape, stack_shape, relation_shape, shape_of, WordOutline}
use Rattle.cedar_expression_machine.specs.machines.ExpressionPlans.{edge, may_follow, class_plan, operand_class_plan, shape_plan}
use Rattle.cedar_expression_machine.specs.machines.Having.{follow_act}
use Rattle.cedar_expression_machine.specs.machines.Expressions.{expression_act, symbol_reader}

abbrev pub Names : Type 0
Names = Reader WordsState WordsAct NameOrEntity

-- what is planned, and done
abbrev pub planned : {A : Type 0} → Option A → (A → Option State) → Option State
planned None f = None
planned (Some a) f = f a

pub planned_same : {A : Type 0} (o : Option A) (f g : A → Option State) → ((a : A) → f a ≡ g a) → planned o f ≡ planned o g
planned_same None f g h = refl
planned_same (Some a) f g h = h a

-- what is done with an operator behind an operand that goes on so far
abbrev pub had : List ℕ → List Frame → PendingOperators → Operand → FollowSet → FollowClass → Extent → Option State
had src st lv m r o e = cond (may_follow (stack_shape st) (relation_shape lv.relation) r o) (follow_act src st lv m o e) None

pub edge_shape : (w : StartSymbol) (st : List Frame) → edge w st ≡ edge w (stack_shape st)
edge_shape w [] = refl
edge_shape w (f ∷ st) = refl

-- where an expression begins, each token has its plan
pub begin_as_operand : (st : List FrameShape) (c : StartClass) → operand_class_plan st place.Expr None c ≡ class_plan c
begin_as_operand st beginning.Word = refl
begin_as_operand st beginning.Number = refl
begin_as_operand st beginning.String = refl
begin_as_operand st (beginning.Slot s) = refl
begin_as_operand st (beginning.Sign s) = refl
begin_as_operand st beginning.Paren = refl
begin_as_operand st beginning.Bracket = refl
begin_as_operand st beginning.Brace = refl
begin_as_operand st (beginning.Ends c) = refl
begin_as_operand st beginning.Other = refl

-- one token more
abbrev pub step_of : {W K : Type 0} → StartSymbol → List ℕ → Names → WordOutline W K → (WordsState → W) → State → Lexeme → Option State
step_of w src names n f s t = planned (shape_plan w n (shape_of f s) t.kind) (λ a. expression_act src names s a t)

-- the machine of any of the three readers, by its tree, takes a token so

done_kept : (T : Type 0) (o : Option State) → answer_state (done_answer {S = State} {T = T} o) ≡ o
done_kept T (Some q) = refl
done_kept T None = refl

ended_none : {T : Type 0} (o : Option T) → answer_state (end_answer {S = State} o) ≡ None
ended_none (Some x) = refl
ended_none None = refl

planned_kept : {T : Type 0} (does : Act → Option State) (tree : Option T) (o : Option Act) → answer_state (planned_answer does tree o) ≡ planned o does
planned_kept {T = T} does tree (Some a) = done_kept T (does a)
planned_kept does tree None = ended_none tree

pub takes_so : {W K T : Type 0} (w : StartSymbol) (src : List ℕ) (names : Names) (n : WordOutline W K) (f : WordsState → W) (tree : List ℕ → State → Option T) (s : State) (t : Lexeme) →
    answer_state ((machine_of src (symbol_reader w names n f tree)).step s t) ≡ step_of w src names n f s t
takes_so w src names n f tree s t = planned_kept (λ a. expression_act src names s a t) (tree src s) (shape_plan w n (shape_of f s) t.kind)

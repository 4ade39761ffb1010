-- Shapes of expressions: what of a state decides which kinds of token may come next, over any
-- shapes of words.
use Rattle.std.specs.Prelude.{List, [], ◌∷◌, Option, Some, None, Bool}
use Rattle.cedar_syntax.specs.declared.cst.NegOp.{NegOp}
use Rattle.cedar_syntax.specs.declared.cst.NegOp.TheVariants as neg
use Rattle.cedar_grammar.specs.declared.reading.class.Sign.{Sign}
use Rattle.cedar_grammar.specs.declared.reading.class.Sign.TheVariants as sign
use Rattle.cedar_expression_machine.specs.declared.words.state.WordsState.{WordsState}
use Rattle.cedar_expression_machine.specs.declared.words.state.WordsAct.{WordsAct}
use Rattle.cedar_expression_machine.specs.declared.expression.state.PendingRelation.{PendingRelation}
use Rattle.cedar_expression_machine.specs.declared.expression.state.PendingRelation.TheVariants as left
use Rattle.cedar_expression_machine.specs.declared.expression.state.Frame.{Frame}
use Rattle.cedar_expression_machine.specs.declared.expression.state.Frame.TheVariants as frame
use Rattle.cedar_expression_machine.specs.declared.expression.state.OperandPlace.{OperandPlace}
use Rattle.cedar_expression_machine.specs.declared.expression.state.OperandPlace.TheVariants as place
use Rattle.cedar_expression_machine.specs.declared.expression.state.OperandMode.{OperandMode}
use Rattle.cedar_expression_machine.specs.declared.expression.state.OperandMode.TheVariants as mode
use Rattle.cedar_expression_machine.specs.declared.expression.state.State.{State}
use Rattle.cedar_expression_machine.specs.declared.expression.state.StartSymbol.{StartSymbol}
use Rattle.cedar_expression_machine.specs.declared.expression.state.StartSymbol.TheVariants as form
use Rattle.cedar_grammar.specs.machines.Machine.{Outline, is_some}

-- what of a relation's left side decides: nothing is begun, comparisons are, a word with one right
-- side is, `is` is
pub data RelationShape : Type 0 where
  free : RelationShape
  comparing : RelationShape
  sided_once : RelationShape
  typed : RelationShape

-- an open bracket, by the left side around it; of a call or an index, whether its operand is the
-- word `if` right of `has`; of a record, whether the pair that is begun has its key
pub data FrameShape : Type 0 where
  in_paren : RelationShape → FrameShape
  in_set : RelationShape → FrameShape
  in_call : RelationShape → Bool → FrameShape
  in_index : RelationShape → Bool → FrameShape
  in_record : RelationShape → Bool → FrameShape
  in_guard : FrameShape
  in_then : FrameShape

pub data ModeShape (W : Type 0) : Type 0 where
  -- here, behind signs of this kind or none
  wants : OperandPlace → Option Sign → ModeShape W
  worded : OperandPlace → W → ModeShape W
  dotted : Bool → ModeShape W
  had_shape : Bool → ModeShape W

pub record Shape (W : Type 0) : Type 0 where
  pub stack : List FrameShape
  pub left_side : RelationShape
  pub mode : ModeShape W

abbrev pub shape : {W : Type 0} → List FrameShape → RelationShape → ModeShape W → Shape W
shape st l m = record { stack = st; left_side = l; mode = m }

-- the outline of words, and whether what they are is the word `if` alone
pub record WordOutline (W K : Type 0) : Type 0 where
  pub outline : Outline W WordsAct K
  pub is_if : K → Bool

-- where the first operand is wanted
abbrev pub start_place : StartSymbol → OperandPlace
start_place form.Expr = place.Expr
start_place form.Sum = place.Operand
start_place form.Primary = place.Primary

-- the shape of a state

abbrev pub relation_shape : Option PendingRelation → RelationShape
relation_shape None = free
relation_shape (Some (left.Common p)) = comparing
relation_shape (Some (left.Has y)) = sided_once
relation_shape (Some (left.Like y)) = sided_once
relation_shape (Some (left.Is y)) = typed
relation_shape (Some (left.IsIn y z e)) = sided_once

abbrev pub frame_shape : Frame → FrameShape
frame_shape (frame.Paren f) = in_paren (relation_shape f.outer.relation)
frame_shape (frame.Set f) = in_set (relation_shape f.outer.relation)
frame_shape (frame.Call f) = in_call (relation_shape f.outer.relation) f.operand.is_if
frame_shape (frame.Index f) = in_index (relation_shape f.outer.relation) f.operand.is_if
frame_shape (frame.Record f) = in_record (relation_shape f.outer.relation) (is_some f.key)
frame_shape (frame.Guard f) = in_guard
frame_shape (frame.Then f) = in_then

abbrev pub stack_shape : List Frame → List FrameShape
stack_shape [] = []
stack_shape (f ∷ st) = frame_shape f ∷ stack_shape st

abbrev pub op_sign : Option NegOp → Option Sign
op_sign None = None
op_sign (Some (neg.Bang n)) = Some sign.Bang
op_sign (Some neg.OverBang) = Some sign.Bang
op_sign (Some (neg.Dash n)) = Some sign.Dash
op_sign (Some neg.OverDash) = Some sign.Dash

abbrev pub mode_shape : {W : Type 0} → (WordsState → W) → OperandMode → ModeShape W
mode_shape f (mode.Want p sg) = wants p (op_sign sg.op)
mode_shape f (mode.Word p sg s) = worded p (f s)
mode_shape f (mode.Have m (Some d)) = dotted m.is_if
mode_shape f (mode.Have m None) = had_shape m.is_if

abbrev pub shape_of : {W : Type 0} → (WordsState → W) → State → Shape W
shape_of f s = shape (stack_shape s.stack) (relation_shape s.levels.relation) (mode_shape f s.mode)

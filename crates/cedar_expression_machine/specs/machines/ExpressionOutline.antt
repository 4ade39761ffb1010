-- What an act makes of the shape of an expression, and its outline.
use Rattle.std.specs.Prelude.{Bool, true, false, List, [], ◌∷◌, Option, Some, None}
use Rattle.cedar_lexer.specs.declared.token.TokenKind.{TokenKind}
use Rattle.cedar_grammar.specs.declared.reading.class.Closing.{Closing}
use Rattle.cedar_grammar.specs.declared.reading.class.Closing.TheVariants as closing
use Rattle.cedar_grammar.specs.declared.reading.class.AccessStart.{AccessStart}
use Rattle.cedar_grammar.specs.declared.reading.class.AccessStart.TheVariants as opens
use Rattle.cedar_grammar.specs.declared.reading.class.SideWord.{SideWord}
use Rattle.cedar_grammar.specs.declared.reading.class.SideWord.TheVariants as side
use Rattle.cedar_grammar.specs.declared.reading.class.FollowClass.{FollowClass}
use Rattle.cedar_grammar.specs.declared.reading.class.FollowClass.TheVariants as operator
use Rattle.cedar_expression_machine.specs.declared.words.state.WordsAct.{WordsAct}
use Rattle.cedar_expression_machine.specs.declared.expression.state.Act.{Act}
use Rattle.cedar_expression_machine.specs.declared.expression.state.Act.TheVariants as act
use Rattle.cedar_expression_machine.specs.declared.expression.state.StartAct.{StartAct}
use Rattle.cedar_expression_machine.specs.declared.expression.state.StartAct.TheVariants as begin
use Rattle.cedar_expression_machine.specs.declared.expression.state.OperandPlace.{OperandPlace}
use Rattle.cedar_expression_machine.specs.declared.expression.state.OperandPlace.TheVariants as place
use Rattle.cedar_expression_machine.specs.declared.expression.state.StartSymbol.{StartSymbol}
use Rattle.cedar_grammar.specs.machines.Machine.{Outline, ends_with}
use Rattle.cedar_expression_machine.specs.machines.Having.{side_place}
use Rattle.cedar_expression_machine.specs.machines.ExpressionShapes.{RelationShape, free, comparing, sided_once, typed, FrameShape, in_paren, in_set, in_call, in_index, in_record, in_guard, in_then, ModeShape, wants, worded, dotted, had_shape, Shape, shape, WordOutline, start_place}
use Rattle.cedar_expression_machine.specs.machines.ExpressionPlans.{shape_plan, shape_ends}

abbrev pub opening_shape : {W : Type 0} → List FrameShape → OperandPlace → Shape W
opening_shape st p = shape st free (wants p None)

abbrev pub wanted_operand : {W : Type 0} → List FrameShape → RelationShape → Shape W
wanted_operand st l = shape st l (wants place.Operand None)

abbrev pub operand_had : {W : Type 0} → List FrameShape → RelationShape → Bool → Shape W
operand_had st l b = shape st l (had_shape b)

-- ---- where an operand is wanted

-- a list ends before an item
abbrev pub list_end_shape : {W : Type 0} → List FrameShape → RelationShape → Shape W
list_end_shape (in_set l ∷ st) k = operand_had st l false
list_end_shape (in_call l b ∷ st) k = operand_had st l b
list_end_shape (in_record l b ∷ st) k = operand_had st l false
list_end_shape st k = operand_had st k false

-- the first token of words
abbrev pub first_shape : {W K : Type 0} → WordOutline W K → TokenKind → Option WordsAct → W
first_shape n k None = n.outline.start
first_shape n k (Some a) = n.outline.act n.outline.start a k

abbrev pub begin_shape : {W K : Type 0} → WordOutline W K → List FrameShape → RelationShape
    → OperandPlace → StartAct → TokenKind → Shape W
begin_shape n st l p begin.Word k =
    shape st l (worded p (first_shape n k (n.outline.plan n.outline.start k)))
begin_shape n st l p begin.Number k = operand_had st l false
begin_shape n st l p begin.String k = operand_had st l false
begin_shape n st l p (begin.Slot s) k = operand_had st l false
begin_shape n st l p (begin.Sign s) k = shape st l (wants place.Operand (Some s))
begin_shape n st l p begin.Paren k = opening_shape (in_paren l ∷ st) place.Expr
begin_shape n st l p begin.Bracket k = opening_shape (in_set l ∷ st) place.Item
begin_shape n st l p begin.Brace k = opening_shape (in_record l false ∷ st) place.Key
begin_shape n st l p (begin.Ends c) k = list_end_shape st l

-- ---- behind an operand

abbrev pub access_shape : {W : Type 0} → List FrameShape → RelationShape → Bool → AccessStart
    → Shape W
access_shape st l b opens.Dot = shape st l (dotted b)
access_shape st l b opens.Paren = opening_shape (in_call l b ∷ st) place.Item
access_shape st l b opens.Bracket = opening_shape (in_index l b ∷ st) place.Expr

-- behind `is` and its type stands `in`, and then the relation has both its sides
abbrev pub compared : RelationShape → RelationShape
compared free = comparing
compared comparing = comparing
compared sided_once = sided_once
compared typed = sided_once

abbrev pub side_left_shape : SideWord → RelationShape
side_left_shape side.Has = sided_once
side_left_shape side.Like = sided_once
side_left_shape side.Is = typed

abbrev pub set_end_shape : {W : Type 0} → List FrameShape → RelationShape → Closing → Shape W
set_end_shape st l closing.Comma = opening_shape (in_set l ∷ st) place.Item
set_end_shape st l _ = operand_had st l false

abbrev pub call_end_shape : {W : Type 0} → List FrameShape → RelationShape → Bool → Closing
    → Shape W
call_end_shape st l b closing.Comma = opening_shape (in_call l b ∷ st) place.Item
call_end_shape st l b _ = operand_had st l b

abbrev pub value_end_shape : {W : Type 0} → List FrameShape → RelationShape → Closing → Shape W
value_end_shape st l closing.Comma = opening_shape (in_record l false ∷ st) place.Key
value_end_shape st l _ = operand_had st l false

abbrev pub record_end_shape : {W : Type 0} → List FrameShape → RelationShape → Bool → Closing
    → Shape W
record_end_shape st l false c = opening_shape (in_record l true ∷ st) place.Expr
record_end_shape st l true c = value_end_shape st l c

-- what ends an expression inside of the newest bracket
abbrev pub end_shape : {W : Type 0} → List FrameShape → RelationShape → Closing → Shape W
end_shape [] k c = operand_had [] k false
end_shape (in_paren l ∷ st) k c = operand_had st l false
end_shape (in_set l ∷ st) k c = set_end_shape st l c
end_shape (in_call l b ∷ st) k c = call_end_shape st l b c
end_shape (in_index l b ∷ st) k c = operand_had st l b
end_shape (in_record l b ∷ st) k c = record_end_shape st l b c
end_shape (in_guard ∷ st) k c = opening_shape (in_then ∷ st) place.Expr
end_shape (in_then ∷ st) k c = opening_shape st place.Expr

abbrev pub follow_shape : {W : Type 0} → List FrameShape → RelationShape → Bool → FollowClass
    → Shape W
follow_shape st l b (operator.Access a) = access_shape st l b a
follow_shape st l b (operator.Multiply o) = wanted_operand st l
follow_shape st l b (operator.Sum o) = wanted_operand st l
follow_shape st l b (operator.Compare o) = wanted_operand st (compared l)
follow_shape st l b (operator.Side s) =
    shape st (side_left_shape s) (wants (side_place s) None)
follow_shape st l b operator.And = wanted_operand st free
follow_shape st l b operator.Or = wanted_operand st free
follow_shape st l b (operator.Ends c) = end_shape st l c
follow_shape st l b operator.Other = operand_had st l b

-- ---- behind words

abbrev pub ended_if : {W K : Type 0} → WordOutline W K → Option K → Bool
ended_if n None = false
ended_if n (Some x) = n.is_if x

-- `if` as a key, and its colon
abbrev pub key_shape : {W : Type 0} → List FrameShape → RelationShape → Shape W
key_shape (in_record l b ∷ st) k = opening_shape (in_record l true ∷ st) place.Expr
key_shape st k = opening_shape st place.Expr

-- ---- the outline

abbrev pub mode_act_shape : {W K : Type 0} → WordOutline W K → List FrameShape → RelationShape
    → ModeShape W → Act → TokenKind → Shape W
mode_act_shape n st l (wants p q) (act.Begin b) k = begin_shape n st l p b k
mode_act_shape n st l (worded p s) (act.Words a) k = shape st l (worded p (n.outline.act s a k))
mode_act_shape n st l (worded p s) (act.Reduce o) k =
    follow_shape st l (ended_if n (n.outline.finish s)) o
mode_act_shape n st l (worded p s) (act.Guard b) k =
    begin_shape n (in_guard ∷ st) free place.Expr b k
mode_act_shape n st l (worded p s) act.Key k = key_shape st l
mode_act_shape n st l (dotted b) act.Field k = operand_had st l b
mode_act_shape n st l (had_shape b) (act.Follow o) k = follow_shape st l b o
mode_act_shape n st l m a k = shape st l m

abbrev pub expression_outline : {W K : Type 0} → StartSymbol → WordOutline W K
    → Outline (Shape W) Act (Unit {0})
expression_outline w n = record {
  start = shape [] free (wants (start_place w) None);
  plan = λ u k. shape_plan w n u k;
  act = λ u a k. mode_act_shape n u.stack u.left_side u.mode a k;
  finish = λ u. ends_with (shape_ends n u);
}

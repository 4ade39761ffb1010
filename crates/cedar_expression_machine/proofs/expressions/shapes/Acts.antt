-- What each act makes of a state of expressions has the shape that the outline says, if the act is
-- one that may be planned there.
use Rattle.std.specs.Prelude.{cond}
use Rattle.std.proofs.Common.{◌≡◌, ℕ, ◌+◌, List, [], ◌∷◌, Option, Some, None, Bool, true, false, ◌&&◌, refl, ap}
use Rattle.cedar_syntax.specs.declared.cst.Expr.{Expr}
use Rattle.cedar_syntax.specs.declared.cst.RelOp.{RelOp}
use Rattle.cedar_syntax.specs.declared.cst.RelOp.TheVariants as rel
use Rattle.cedar_syntax.specs.declared.cst.Add.{Add}
use Rattle.cedar_syntax.specs.declared.cst.NegOp.{NegOp}
use Rattle.cedar_syntax.specs.declared.cst.NegOp.TheVariants as neg
use Rattle.cedar_grammar.specs.declared.reading.class.Sign.{Sign}
use Rattle.cedar_grammar.specs.declared.reading.class.Sign.TheVariants as sign
use Rattle.cedar_grammar.specs.declared.reading.class.Closing.{Closing}
use Rattle.cedar_grammar.specs.declared.reading.class.Closing.TheVariants as closing
use Rattle.cedar_grammar.specs.declared.reading.class.AccessStart.{AccessStart}
use Rattle.cedar_grammar.specs.declared.reading.class.AccessStart.TheVariants as opens
use Rattle.cedar_grammar.specs.declared.reading.class.SideWord.{SideWord}
use Rattle.cedar_grammar.specs.declared.reading.class.SideWord.TheVariants as side
use Rattle.cedar_grammar.specs.declared.reading.class.FollowClass.{FollowClass}
use Rattle.cedar_grammar.specs.declared.reading.class.FollowClass.TheVariants as operator
use Rattle.cedar_expression_machine.specs.declared.words.state.WordsState.{WordsState}
use Rattle.cedar_expression_machine.specs.declared.expression.state.Spanned.{Spanned}
use Rattle.cedar_expression_machine.specs.declared.expression.state.PendingRelation.{PendingRelation}
use Rattle.cedar_expression_machine.specs.declared.expression.state.PendingRelation.TheVariants as left
use Rattle.cedar_expression_machine.specs.declared.expression.state.PendingOperators.{PendingOperators}
use Rattle.cedar_expression_machine.specs.declared.expression.state.Operand.{Operand}
use Rattle.cedar_expression_machine.specs.declared.expression.state.Paren.{Paren}
use Rattle.cedar_expression_machine.specs.declared.expression.state.Set.{Set}
use Rattle.cedar_expression_machine.specs.declared.expression.state.Call.{Call}
use Rattle.cedar_expression_machine.specs.declared.expression.state.Index.{Index}
use Rattle.cedar_expression_machine.specs.declared.expression.state.Key.{Key}
use Rattle.cedar_expression_machine.specs.declared.expression.state.Record.{Record}
use Rattle.cedar_expression_machine.specs.declared.expression.state.Guard.{Guard}
use Rattle.cedar_expression_machine.specs.declared.expression.state.Then.{Then}
use Rattle.cedar_expression_machine.specs.declared.expression.state.Frame.{Frame}
use Rattle.cedar_expression_machine.specs.declared.expression.state.Frame.TheVariants as frame
use Rattle.cedar_expression_machine.specs.declared.expression.state.OperandPlace.{OperandPlace}
use Rattle.cedar_expression_machine.specs.declared.expression.state.OperandPlace.TheVariants as place
use Rattle.cedar_expression_machine.specs.declared.expression.state.FollowSet.{FollowSet}
use Rattle.cedar_expression_machine.specs.declared.expression.state.State.{State}
use Rattle.cedar_grammar.specs.declared.reading.extent.Extent.{Extent}
use Rattle.cedar_syntax.specs.trees.Trees.{Cell}
use Rattle.cedar_grammar.specs.machines.Machine.{is_some}
use Rattle.cedar_grammar.specs.machines.Classes.{with_sign}
use Rattle.cedar_expression_machine.specs.machines.Closing.{add_at, whole}
use Rattle.cedar_expression_machine.specs.machines.Wanting.{after_signs, list_ending}
use Rattle.cedar_expression_machine.specs.machines.Having.{is_within, comparison_beginning, side_beginning, access_beginning, paren_ending, set_ending, call_ending, index_ending, key_ending, value_ending, record_ending, guard_ending, then_ending, frame_ending, follow_act}
use Rattle.cedar_expression_machine.specs.machines.ExpressionShapes.{RelationShape, in_paren, in_set, in_call, in_index, in_record, in_guard, in_then, wants, Shape, shape, relation_shape, stack_shape, op_sign, shape_of}
use Rattle.cedar_expression_machine.specs.machines.ExpressionPlans.{has_relation, may_compare, may_side, may_end, stack_may_end, may_follow, may_sign, sign_may_stand, in_a_set, in_a_call, in_a_record, list_may_end}
use Rattle.cedar_expression_machine.specs.machines.ExpressionOutline.{opening_shape, wanted_operand, operand_had, list_end_shape, access_shape, compared, set_end_shape, call_end_shape, value_end_shape, record_end_shape, end_shape, follow_shape}
use Rattle.cedar_grammar.proofs.machines.Laws.{false_true}

-- an act makes a state of this shape
abbrev pub Made : {W : Type 0} → (WordsState → W) → Shape W → Option State → Type 0
Made f u (Some q) = shape_of f q ≡ u
Made f u None = ⊥

-- ---- what ends an expression in brackets

paren_made : {W : Type 0} (w : WordsState → W) (src : List ℕ) (st : List Frame) (f : Paren) (x : Spanned Expr) (c : Closing) (e : Extent) → may_end (in_paren (relation_shape f.outer.relation)) c ≡ true →
    Made w (operand_had (stack_shape st) (relation_shape f.outer.relation) false) (paren_ending src st f x c e)
paren_made w src st f x closing.Paren e h = refl
paren_made w src st f x _ e h = absurd (false_true refl h)

set_made : {W : Type 0} (w : WordsState → W) (src : List ℕ) (st : List Frame) (f : Set) (x : Spanned Expr) (c : Closing) (e : Extent) → may_end (in_set (relation_shape f.outer.relation)) c ≡ true →
    Made w (set_end_shape (stack_shape st) (relation_shape f.outer.relation) c) (set_ending src st f x c e)
set_made w src st f x closing.Comma e h = refl
set_made w src st f x closing.Bracket e h = refl
set_made w src st f x _ e h = absurd (false_true refl h)

call_made : {W : Type 0} (w : WordsState → W) (src : List ℕ) (st : List Frame) (f : Call) (x : Spanned Expr) (c : Closing) (e : Extent) → may_end (in_call (relation_shape f.outer.relation) f.operand.is_if) c ≡ true →
    Made w (call_end_shape (stack_shape st) (relation_shape f.outer.relation) f.operand.is_if c) (call_ending src st f x c e)
call_made w src st f x closing.Comma e h = refl
call_made w src st f x closing.Paren e h = refl
call_made w src st f x _ e h = absurd (false_true refl h)

index_made : {W : Type 0} (w : WordsState → W) (src : List ℕ) (st : List Frame) (f : Index) (x : Spanned Expr) (c : Closing) (e : Extent) → may_end (in_index (relation_shape f.outer.relation) f.operand.is_if) c ≡ true →
    Made w (operand_had (stack_shape st) (relation_shape f.outer.relation) f.operand.is_if) (index_ending src st f x c e)
index_made w src st f x closing.Bracket e h = refl
index_made w src st f x _ e h = absurd (false_true refl h)

key_made : {W : Type 0} (w : WordsState → W) (src : List ℕ) (st : List Frame) (f : Record) (x : Spanned Expr) (c : Closing) (e : Extent) → may_end (in_record (relation_shape f.outer.relation) false) c ≡ true →
    Made w (opening_shape (in_record (relation_shape f.outer.relation) true ∷ stack_shape st) place.Expr) (key_ending src st f x c e)
key_made w src st f x closing.Colon e h = refl
key_made w src st f x _ e h = absurd (false_true refl h)

value_made : {W : Type 0} (w : WordsState → W) (src : List ℕ) (st : List Frame) (f : Record) (k : Key) (x : Spanned Expr) (c : Closing) (e : Extent) → may_end (in_record (relation_shape f.outer.relation) true) c ≡ true →
    Made w (value_end_shape (stack_shape st) (relation_shape f.outer.relation) c) (value_ending src st f k x c e)
value_made w src st f k x closing.Comma e h = refl
value_made w src st f k x closing.Brace e h = refl
value_made w src st f k x _ e h = absurd (false_true refl h)

record_made : {W : Type 0} (w : WordsState → W) (src : List ℕ) (st : List Frame) (f : Record) (k : Option Key) (x : Spanned Expr) (c : Closing) (e : Extent) → may_end (in_record (relation_shape f.outer.relation) (is_some k)) c ≡ true →
    Made w (record_end_shape (stack_shape st) (relation_shape f.outer.relation) (is_some k) c) (record_ending src st f k x c e)
record_made w src st f None x c e h = key_made w src st f x c e h
record_made w src st f (Some k) x c e h = value_made w src st f k x c e h

guard_made : {W : Type 0} (w : WordsState → W) (src : List ℕ) (st : List Frame) (f : Guard) (x : Spanned Expr) (c : Closing) (e : Extent) → may_end in_guard c ≡ true →
    Made w (opening_shape (in_then ∷ stack_shape st) place.Expr) (guard_ending src st f x c e)
guard_made w src st f x closing.Then e h = refl
guard_made w src st f x _ e h = absurd (false_true refl h)

then_made : {W : Type 0} (w : WordsState → W) (src : List ℕ) (st : List Frame) (f : Then) (x : Spanned Expr) (c : Closing) (e : Extent) → may_end in_then c ≡ true → Made w (opening_shape (stack_shape st) place.Expr) (then_ending src st f x c e)
then_made w src st f x closing.Else e h = refl
then_made w src st f x _ e h = absurd (false_true refl h)

end_made : {W : Type 0} (w : WordsState → W) (src : List ℕ) (st : List Frame) (l : RelationShape) (x : Spanned Expr) (c : Closing) (e : Extent) → stack_may_end (stack_shape st) c ≡ true → Made w (end_shape (stack_shape st) l c) (frame_ending src st x c e)
end_made w src [] l x c e h = absurd (false_true refl h)
end_made w src (frame.Paren f ∷ st) l x c e h = paren_made w src st f x c e h
end_made w src (frame.Set f ∷ st) l x c e h = set_made w src st f x c e h
end_made w src (frame.Call f ∷ st) l x c e h = call_made w src st f x c e h
end_made w src (frame.Index f ∷ st) l x c e h = index_made w src st f x c e h
end_made w src (frame.Record f ∷ st) l x c e h = record_made w src st f f.key x c e h
end_made w src (frame.Guard f ∷ st) l x c e h = guard_made w src st f x c e h
end_made w src (frame.Then f ∷ st) l x c e h = then_made w src st f x c e h

-- ---- operators

access_made : {W : Type 0} (w : WordsState → W) (st : List Frame) (lv : PendingOperators) (m : Operand) (a : AccessStart) (e : Extent) → Made w (access_shape (stack_shape st) (relation_shape lv.relation) m.is_if a) (Some (access_beginning st lv m a e))
access_made w st lv m opens.Dot e = refl
access_made w st lv m opens.Paren e = refl
access_made w st lv m opens.Bracket e = refl

within_made : {W : Type 0} (w : WordsState → W) (src : List ℕ) (st : List Frame) (lv : PendingOperators) (y : Spanned (Cell Add)) (x : Spanned Add) (o : RelOp) (e : Extent) → may_compare (relation_shape (Some (left.Is y))) o ≡ true →
    Made w (wanted_operand (stack_shape st) (compared (relation_shape (Some (left.Is y))))) (is_within src st lv y x o e)
within_made w src st lv y x rel.In e h = refl
within_made w src st lv y x _ e h = absurd (false_true refl h)

compared_made : {W : Type 0} (w : WordsState → W) (src : List ℕ) (st : List Frame) (lv : PendingOperators) (l : Option PendingRelation) (x : Spanned Add) (o : RelOp) (e : Extent) → may_compare (relation_shape l) o ≡ true →
    Made w (wanted_operand (stack_shape st) (compared (relation_shape l))) (comparison_beginning src st lv l x o e)
compared_made w src st lv None x o e h = refl
compared_made w src st lv (Some (left.Common p)) x o e h = refl
compared_made w src st lv (Some (left.Is y)) x o e h = within_made w src st lv y x o e h
compared_made w src st lv (Some (left.Has y)) x o e h = absurd (false_true refl h)
compared_made w src st lv (Some (left.Like y)) x o e h = absurd (false_true refl h)
compared_made w src st lv (Some (left.IsIn y z l)) x o e h = absurd (false_true refl h)

sided_made : {W : Type 0} (w : WordsState → W) (src : List ℕ) (st : List Frame) (lv : PendingOperators) (l : Option PendingRelation) (x : Spanned Add) (s : SideWord) (e : Extent) → may_side (relation_shape l) ≡ true →
    Made w (follow_shape (stack_shape st) (relation_shape l) false (operator.Side s)) (side_beginning src st lv l x s e)
sided_made w src st lv None x side.Has e h = refl
sided_made w src st lv None x side.Like e h = refl
sided_made w src st lv None x side.Is e h = refl
sided_made w src st lv (Some (left.Common p)) x s e h = absurd (false_true refl h)
sided_made w src st lv (Some (left.Is y)) x s e h = absurd (false_true refl h)
sided_made w src st lv (Some (left.Has y)) x s e h = absurd (false_true refl h)
sided_made w src st lv (Some (left.Like y)) x s e h = absurd (false_true refl h)
sided_made w src st lv (Some (left.IsIn y z l)) x s e h = absurd (false_true refl h)

both_right : (a b : Bool) → a && b ≡ true → b ≡ true
both_right true b h = h
both_right false b h = absurd (false_true refl h)

-- behind an operand that goes on by these operators
pub follow_made : {W : Type 0} (w : WordsState → W) (src : List ℕ) (st : List Frame) (lv : PendingOperators) (m : Operand) (r : FollowSet) (o : FollowClass) (e : Extent) → may_follow (stack_shape st) (relation_shape lv.relation) r o ≡ true →
    Made w (follow_shape (stack_shape st) (relation_shape lv.relation) m.is_if o) (follow_act src st lv m o e)
follow_made w src st lv m r (operator.Access a) e h = access_made w st lv m a e
follow_made w src st lv m r (operator.Multiply o) e h = refl
follow_made w src st lv m r (operator.Sum o) e h = refl
follow_made w src st lv m r (operator.Compare o) e h = compared_made w src st lv lv.relation (add_at src lv m) o e (both_right (has_relation r) (may_compare (relation_shape lv.relation) o) h)
follow_made w src st lv m r (operator.Side s) e h = sided_made w src st lv lv.relation (add_at src lv m) s e (both_right (has_relation r) (may_side (relation_shape lv.relation)) h)
follow_made w src st lv m r operator.And e h = refl
follow_made w src st lv m r operator.Or e h = refl
follow_made w src st lv m r (operator.Ends c) e h = end_made w src st (relation_shape lv.relation) (whole src lv m) c e h
follow_made w src st lv m r operator.Other e h = absurd (false_true refl h)

-- ---- signs

bang_sign : (b : Bool) (n : ℕ) → op_sign (Some (cond b (neg.Bang n) neg.OverBang)) ≡ Some sign.Bang
bang_sign true n = refl
bang_sign false n = refl

dash_sign : (b : Bool) (n : ℕ) → op_sign (Some (cond b (neg.Dash n) neg.OverDash)) ≡ Some sign.Dash
dash_sign true n = refl
dash_sign false n = refl

signs_made : {W : Type 0} (w : WordsState → W) (st : List Frame) (lv : PendingOperators) (l : Option Extent) (o : Option NegOp) (s : Sign) (e : Extent) → may_sign (op_sign o) s ≡ true →
    Made w (shape (stack_shape st) (relation_shape lv.relation) (wants place.Operand (Some s))) (after_signs st lv l (with_sign o s) e)
signs_made w st lv l None sign.Bang e h = refl
signs_made w st lv l None sign.Dash e h = refl
signs_made w st lv l (Some (neg.Bang n)) sign.Bang e h = ap (λ q. shape (stack_shape st) (relation_shape lv.relation) (wants place.Operand q)) (bang_sign _ (n + 1))
signs_made w st lv l (Some neg.OverBang) sign.Bang e h = refl
signs_made w st lv l (Some (neg.Dash n)) sign.Dash e h = ap (λ q. shape (stack_shape st) (relation_shape lv.relation) (wants place.Operand q)) (dash_sign _ (n + 1))
signs_made w st lv l (Some neg.OverDash) sign.Dash e h = refl
signs_made w st lv l (Some (neg.Bang n)) sign.Dash e h = absurd (false_true refl h)
signs_made w st lv l (Some neg.OverBang) sign.Dash e h = absurd (false_true refl h)
signs_made w st lv l (Some (neg.Dash n)) sign.Bang e h = absurd (false_true refl h)
signs_made w st lv l (Some neg.OverDash) sign.Bang e h = absurd (false_true refl h)

-- a sign that may stand in this place
pub sign_made : {W : Type 0} (w : WordsState → W) (st : List Frame) (lv : PendingOperators) (p : OperandPlace) (l : Option Extent) (o : Option NegOp) (s : Sign) (e : Extent) → sign_may_stand p (op_sign o) s ≡ true →
    Made w (shape (stack_shape st) (relation_shape lv.relation) (wants place.Operand (Some s))) (after_signs st lv l (with_sign o s) e)
sign_made w st lv place.Expr l o s e h = signs_made w st lv l o s e h
sign_made w st lv place.Item l o s e h = signs_made w st lv l o s e h
sign_made w st lv place.Key l o s e h = signs_made w st lv l o s e h
sign_made w st lv place.Has l o s e h = signs_made w st lv l o s e h
sign_made w st lv place.Operand l o s e h = signs_made w st lv l o s e h
sign_made w st lv place.Primary l o s e h = absurd (false_true refl h)

-- ---- lists that end before an item

abbrev ListMade : {W : Type 0} → (WordsState → W) → List ℕ → List Frame → RelationShape → Extent → Type 0
ListMade w src st l e = Made w (list_end_shape (stack_shape st) l) (list_ending src st e)

set_list_made : {W : Type 0} (w : WordsState → W) (src : List ℕ) (st : List Frame) (l : RelationShape) (e : Extent) → in_a_set (stack_shape st) ≡ true → ListMade w src st l e
set_list_made w src (frame.Set f ∷ st) l e h = refl
set_list_made w src [] l e h = absurd (false_true refl h)
set_list_made w src (_ ∷ st) l e h = absurd (false_true refl h)

call_list_made : {W : Type 0} (w : WordsState → W) (src : List ℕ) (st : List Frame) (l : RelationShape) (e : Extent) → in_a_call (stack_shape st) ≡ true → ListMade w src st l e
call_list_made w src (frame.Call f ∷ st) l e h = refl
call_list_made w src [] l e h = absurd (false_true refl h)
call_list_made w src (_ ∷ st) l e h = absurd (false_true refl h)

record_list_made : {W : Type 0} (w : WordsState → W) (src : List ℕ) (st : List Frame) (l : RelationShape) (e : Extent) → in_a_record (stack_shape st) ≡ true → ListMade w src st l e
record_list_made w src (frame.Record f ∷ st) l e h = refl
record_list_made w src [] l e h = absurd (false_true refl h)
record_list_made w src (_ ∷ st) l e h = absurd (false_true refl h)

pub list_made : {W : Type 0} (w : WordsState → W) (src : List ℕ) (st : List Frame) (l : RelationShape) (p : OperandPlace) (c : Closing) (e : Extent) → list_may_end (stack_shape st) p c ≡ true → ListMade w src st l e
list_made w src st l place.Item closing.Bracket e h = set_list_made w src st l e h
list_made w src st l place.Item closing.Paren e h = call_list_made w src st l e h
list_made w src st l place.Item _ e h = absurd (false_true refl h)
list_made w src st l place.Key closing.Brace e h = record_list_made w src st l e h
list_made w src st l place.Key _ e h = absurd (false_true refl h)
list_made w src st l place.Expr c e h = absurd (false_true refl h)
list_made w src st l place.Has c e h = absurd (false_true refl h)
list_made w src st l place.Operand c e h = absurd (false_true refl h)
list_made w src st l place.Primary c e h = absurd (false_true refl h)

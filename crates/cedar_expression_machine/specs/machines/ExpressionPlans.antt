-- The plan of expressions: what is done with a token, by its kind and the shape of the state
-- alone.
use Rattle.std.specs.Prelude.{List, [], ◌∷◌, Option, Some, None, Bool, true, false, ◌&&◌, cond}
use Rattle.cedar_lexer.specs.declared.token.TokenKind.{TokenKind}
use Rattle.cedar_lexer.specs.declared.token.TokenKind.TheVariants as kind
use Rattle.cedar_syntax.specs.declared.cst.RelOp.{RelOp}
use Rattle.cedar_syntax.specs.declared.cst.RelOp.TheVariants as rel
use Rattle.cedar_grammar.specs.declared.reading.class.Sign.{Sign}
use Rattle.cedar_grammar.specs.declared.reading.class.Sign.TheVariants as sign
use Rattle.cedar_grammar.specs.declared.reading.class.StartClass.{StartClass}
use Rattle.cedar_grammar.specs.declared.reading.class.StartClass.TheVariants as beginning
use Rattle.cedar_grammar.specs.declared.reading.class.Closing.{Closing}
use Rattle.cedar_grammar.specs.declared.reading.class.Closing.TheVariants as closing
use Rattle.cedar_grammar.specs.declared.reading.class.FollowClass.{FollowClass}
use Rattle.cedar_grammar.specs.declared.reading.class.FollowClass.TheVariants as operator
use Rattle.cedar_expression_machine.specs.declared.expression.state.OperandPlace.{OperandPlace}
use Rattle.cedar_expression_machine.specs.declared.expression.state.OperandPlace.TheVariants as place
use Rattle.cedar_expression_machine.specs.declared.expression.state.StartSymbol.{StartSymbol}
use Rattle.cedar_expression_machine.specs.declared.expression.state.StartSymbol.TheVariants as form
use Rattle.cedar_expression_machine.specs.declared.expression.state.FollowSet.{FollowSet}
use Rattle.cedar_expression_machine.specs.declared.expression.state.FollowSet.TheVariants as follow_set
use Rattle.cedar_syntax.specs.tokens.Tokens.{any_of}
use Rattle.cedar_grammar.specs.machines.Machine.{option_image}
use Rattle.cedar_expression_machine.specs.declared.expression.state.StartAct.{StartAct}
use Rattle.cedar_expression_machine.specs.declared.expression.state.StartAct.TheVariants as begin
use Rattle.cedar_expression_machine.specs.declared.expression.state.Act.{Act}
use Rattle.cedar_expression_machine.specs.declared.expression.state.Act.TheVariants as act
use Rattle.cedar_grammar.specs.machines.Classes.{start_class, follow_class}
use Rattle.cedar_expression_machine.specs.machines.ExpressionShapes.{RelationShape, free, comparing, sided_once, typed, FrameShape, in_paren, in_set, in_call, in_index, in_record, in_guard, in_then, ModeShape, wants, worded, dotted, had_shape, Shape, WordOutline}

-- how far an operand goes on: inside of brackets as a whole expression's

abbrev pub start_follow_set : StartSymbol → FollowSet
start_follow_set form.Expr = follow_set.Whole
start_follow_set form.Sum = follow_set.Sum
start_follow_set form.Primary = follow_set.Primary

abbrev pub edge : {F : Type 0} → StartSymbol → List F → FollowSet
edge w [] = start_follow_set w
edge w (f ∷ st) = follow_set.Whole

abbrev pub follow_set_of : {F : Type 0} → StartSymbol → List F → Bool → FollowSet
follow_set_of w st b = cond b follow_set.If (edge w st)

-- which operators may stand behind an operand that goes on so far

abbrev pub has_access : FollowSet → Bool
has_access follow_set.Primary = false
has_access _ = true

abbrev pub has_sum : FollowSet → Bool
has_sum follow_set.Primary = false
has_sum follow_set.Sum = true
has_sum follow_set.If = false
has_sum follow_set.Whole = true

abbrev pub has_relation : FollowSet → Bool
has_relation follow_set.Whole = true
has_relation _ = false

abbrev pub has_and : FollowSet → Bool
has_and follow_set.Primary = false
has_and follow_set.Sum = false
has_and follow_set.If = true
has_and follow_set.Whole = true

-- ---- behind an operand

-- a comparison may follow this left side; behind `is` and its type only `in`
abbrev pub may_compare : RelationShape → RelOp → Bool
may_compare free o = true
may_compare comparing o = true
may_compare sided_once o = false
may_compare typed rel.In = true
may_compare typed _ = false

-- one of the words has nothing begun before it
abbrev pub may_side : RelationShape → Bool
may_side free = true
may_side _ = false

-- what ends the expression in a bracket, or an item of its list; a record's key ends at its colon,
-- its value at what ends an item (`in_record true` has its key)
abbrev pub may_end : FrameShape → Closing → Bool
may_end (in_paren l) closing.Paren = true
may_end (in_set l) closing.Comma = true
may_end (in_set l) closing.Bracket = true
may_end (in_call l b) closing.Comma = true
may_end (in_call l b) closing.Paren = true
may_end (in_index l b) closing.Bracket = true
may_end (in_record l false) closing.Colon = true
may_end (in_record l true) closing.Comma = true
may_end (in_record l true) closing.Brace = true
may_end in_guard closing.Then = true
may_end in_then closing.Else = true
may_end _ _ = false

abbrev pub stack_may_end : List FrameShape → Closing → Bool
stack_may_end [] c = false
stack_may_end (f ∷ st) c = may_end f c

abbrev pub may_follow : List FrameShape → RelationShape → FollowSet → FollowClass → Bool
may_follow st l r (operator.Access a) = has_access r
may_follow st l r (operator.Multiply o) = has_sum r
may_follow st l r (operator.Sum o) = has_sum r
may_follow st l r (operator.Compare o) = has_relation r && may_compare l o
may_follow st l r (operator.Side s) = has_relation r && may_side l
may_follow st l r operator.And = has_and r
may_follow st l r operator.Or = has_and r
may_follow st l r (operator.Ends c) = stack_may_end st c
may_follow st l r operator.Other = false

abbrev pub if_follows : Bool → FollowClass → Option FollowClass
if_follows b o = cond b (Some o) None

abbrev pub behind_plan : StartSymbol → List FrameShape → RelationShape → Bool → TokenKind
    → Option FollowClass
behind_plan w st l b k =
    if_follows (may_follow st l (follow_set_of w st b) (follow_class k)) (follow_class k)

-- ---- where an operand is wanted

-- no sign before it, and no list that can end
abbrev pub class_plan : StartClass → Option StartAct
class_plan beginning.Word = Some begin.Word
class_plan beginning.Number = Some begin.Number
class_plan beginning.String = Some begin.String
class_plan (beginning.Slot s) = Some (begin.Slot s)
class_plan (beginning.Sign s) = Some (begin.Sign s)
class_plan beginning.Paren = Some begin.Paren
class_plan beginning.Bracket = Some begin.Bracket
class_plan beginning.Brace = Some begin.Brace
class_plan (beginning.Ends c) = None
class_plan beginning.Other = None

abbrev pub begin_plan : TokenKind → Option StartAct
begin_plan k = class_plan (start_class k)

abbrev pub may_sign : Option Sign → Sign → Bool
may_sign None s = true
may_sign (Some sign.Bang) sign.Bang = true
may_sign (Some sign.Dash) sign.Dash = true
may_sign _ _ = false

abbrev pub sign_may_stand : OperandPlace → Option Sign → Sign → Bool
sign_may_stand place.Primary q s = false
sign_may_stand _ q s = may_sign q s

-- the newest bracket holds a list that may end before an item: a record's only where no key is
-- begun

abbrev pub in_a_set : List FrameShape → Bool
in_a_set (in_set l ∷ st) = true
in_a_set _ = false

abbrev pub in_a_call : List FrameShape → Bool
in_a_call (in_call l b ∷ st) = true
in_a_call _ = false

abbrev pub in_a_record : List FrameShape → Bool
in_a_record (in_record l false ∷ st) = true
in_a_record _ = false

abbrev pub list_may_end : List FrameShape → OperandPlace → Closing → Bool
list_may_end st place.Item closing.Bracket = in_a_set st
list_may_end st place.Item closing.Paren = in_a_call st
list_may_end st place.Item _ = false
list_may_end st place.Key closing.Brace = in_a_record st
list_may_end st place.Key _ = false
list_may_end st place.Expr c = false
list_may_end st place.Has c = false
list_may_end st place.Operand c = false
list_may_end st place.Primary c = false

abbrev pub operand_class_plan : List FrameShape → OperandPlace → Option Sign → StartClass
    → Option StartAct
operand_class_plan st p q (beginning.Sign s) =
    cond (sign_may_stand p q s) (Some (begin.Sign s)) None
operand_class_plan st p q (beginning.Ends c) =
    cond (list_may_end st p c) (Some (begin.Ends c)) None
operand_class_plan st p q c = class_plan c

abbrev pub operand_plan : List FrameShape → OperandPlace → Option Sign → TokenKind
    → Option StartAct
operand_plan st p q k = operand_class_plan st p q (start_class k)

-- ---- behind words that have ended

abbrev pub guard_plan : TokenKind → Option Act
guard_plan k = option_image (λ b. act.Guard b) (begin_plan k)

abbrev pub reduce_plan : Option FollowClass → Option Act
reduce_plan o = option_image (λ x. act.Reduce x) o

abbrev pub colon_key_plan : List FrameShape → Option Act
colon_key_plan (in_record l false ∷ st) = Some act.Key
colon_key_plan _ = None

abbrev pub key_plan : List FrameShape → TokenKind → Option Act
key_plan st kind.Colon = colon_key_plan st
key_plan st k = guard_plan k

abbrev pub if_plan : StartSymbol → List FrameShape → RelationShape → OperandPlace → TokenKind
    → Option Act
if_plan w st l place.Expr k = guard_plan k
if_plan w st l place.Item k = guard_plan k
if_plan w st l place.Key k = key_plan st k
if_plan w st l place.Has k = reduce_plan (behind_plan w st l true k)
if_plan w st l place.Operand k = None
if_plan w st l place.Primary k = None

abbrev pub ended_words_plan : StartSymbol → List FrameShape → RelationShape → OperandPlace
    → Option Bool → TokenKind → Option Act
ended_words_plan w st l p None k = None
ended_words_plan w st l p (Some true) k = if_plan w st l p k
ended_words_plan w st l p (Some false) k = reduce_plan (behind_plan w st l false k)

abbrev pub or_else : {A : Type 0} → Option A → Option A → Option A
or_else (Some a) o = Some a
or_else None o = o

abbrev pub word_plan : {W K : Type 0} → StartSymbol → WordOutline W K → List FrameShape
    → RelationShape → OperandPlace → W → TokenKind → Option Act
word_plan w n st l p s k = or_else (option_image (λ a. act.Words a) (n.outline.plan s k))
    (ended_words_plan w st l p (option_image n.is_if (n.outline.finish s)) k)

-- ---- the plan

abbrev pub mode_plan : {W K : Type 0} → StartSymbol → WordOutline W K → List FrameShape
    → RelationShape → ModeShape W → TokenKind → Option Act
mode_plan w n st l (wants p q) k = option_image (λ b. act.Begin b) (operand_plan st p q k)
mode_plan w n st l (worded p s) k = word_plan w n st l p s k
mode_plan w n st l (dotted b) k = option_image (λ i. act.Field) (any_of k [])
mode_plan w n st l (had_shape b) k = option_image (λ o. act.Follow o) (behind_plan w st l b k)

abbrev pub shape_plan : {W K : Type 0} → StartSymbol → WordOutline W K → Shape W → TokenKind
    → Option Act
shape_plan w n u k = mode_plan w n u.stack u.left_side u.mode k

-- ---- whether the tree can end

abbrev pub if_ends : OperandPlace → Bool → Bool
if_ends p false = true
if_ends place.Has true = true
if_ends _ true = false

abbrev pub words_can_end : {W K : Type 0} → WordOutline W K → OperandPlace → Option K → Bool
words_can_end n p None = false
words_can_end n p (Some x) = if_ends p (n.is_if x)

abbrev pub ends : {W K : Type 0} → WordOutline W K → List FrameShape → ModeShape W → Bool
ends n [] (wants p q) = false
ends n [] (worded p s) = words_can_end n p (n.outline.finish s)
ends n [] (dotted b) = false
ends n [] (had_shape b) = true
ends n (f ∷ st) m = false

abbrev pub shape_ends : {W K : Type 0} → WordOutline W K → Shape W → Bool
shape_ends n u = ends n u.stack u.mode

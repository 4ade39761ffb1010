-- What an act asks of a state of the machine of expressions, as its plan says it: where the state
-- stands, and what is begun there. And what such an act makes of a state, where it needs no token.
use Rattle.std.specs.Prelude.{◌≡◌, ℕ, IsTrue, List, ◌∷◌, Option, Some, None}
use Rattle.cedar_lexer.specs.declared.token.TokenKind.{TokenKind}
use Rattle.cedar_syntax.specs.declared.cst.Add.{Add}
use Rattle.cedar_syntax.specs.declared.cst.RelOp.{RelOp}
use Rattle.cedar_grammar.specs.declared.reading.class.Closing.{Closing}
use Rattle.cedar_grammar.specs.declared.reading.class.FollowClass.{FollowClass}
use Rattle.cedar_grammar.specs.declared.reading.class.SideWord.{SideWord}
use Rattle.cedar_grammar.specs.declared.reading.class.Sign.{Sign}
use Rattle.cedar_grammar.specs.declared.reading.extent.Extent.{Extent}
use Rattle.cedar_expression_machine.specs.declared.words.state.Entity.{Entity}
use Rattle.cedar_expression_machine.specs.declared.words.state.Path.{Path}
use Rattle.cedar_expression_machine.specs.declared.words.state.PathState.TheVariants as path
use Rattle.cedar_expression_machine.specs.declared.words.state.WordsState.{WordsState}
use Rattle.cedar_expression_machine.specs.declared.words.state.WordsState.TheVariants as words
use Rattle.cedar_expression_machine.specs.declared.expression.state.StartAct.{StartAct}
use Rattle.cedar_expression_machine.specs.declared.expression.state.Frame.{Frame}
use Rattle.cedar_expression_machine.specs.declared.expression.state.Frame.TheVariants as frame
use Rattle.cedar_expression_machine.specs.declared.expression.state.PendingRelation.{PendingRelation}
use Rattle.cedar_expression_machine.specs.declared.expression.state.PendingRelation.TheVariants as left
use Rattle.cedar_expression_machine.specs.declared.expression.state.PendingOperators.{PendingOperators}
use Rattle.cedar_expression_machine.specs.declared.expression.state.OperandMode.{OperandMode}
use Rattle.cedar_expression_machine.specs.declared.expression.state.OperandMode.TheVariants as mode
use Rattle.cedar_expression_machine.specs.declared.expression.state.Operand.{Operand}
use Rattle.cedar_expression_machine.specs.declared.expression.state.PendingChain.{PendingChain}
use Rattle.cedar_expression_machine.specs.declared.expression.state.OperandPlace.{OperandPlace}
use Rattle.cedar_expression_machine.specs.declared.expression.state.Spanned.{Spanned}
use Rattle.cedar_expression_machine.specs.declared.expression.state.FollowSet.{FollowSet}
use Rattle.cedar_expression_machine.specs.declared.expression.state.Record.{Record}
use Rattle.cedar_expression_machine.specs.declared.expression.state.Signs.{Signs}
use Rattle.cedar_expression_machine.specs.declared.expression.state.State.{State}
use Rattle.cedar_syntax.specs.trees.Trees.{Cell}
use Rattle.cedar_grammar.specs.machines.Machine.{is_some, option_image}
use Rattle.cedar_expression_machine.specs.machines.Closing.{Plain, add_at, and_at, levels_of, marked_chain, plain_chain, relation_at}
use Rattle.cedar_expression_machine.specs.machines.ExpressionPlans.{list_may_end, may_follow, may_sign, operand_plan}
use Rattle.cedar_expression_machine.specs.machines.ExpressionShapes.{relation_shape, op_sign, stack_shape}
use Rattle.cedar_expression_machine.specs.machines.ExpressionStates.{has_operand}
use Rattle.cedar_expression_machine.specs.machines.Expressions.{last_operand, named_operand}
use Rattle.cedar_expression_machine.specs.machines.Having.{follow_act, side_of}
use Rattle.cedar_expression_machine.specs.machines.Named.{named_reader}
use Rattle.cedar_expression_machine.specs.machines.Words.{path_extent, words_end}

-- where an operand is wanted
abbrev pub WantsOperand : OperandMode → Type 0
WantsOperand q = (p : OperandPlace) × (sg : Signs) × (q ≡ mode.Want p sg)

-- a token of this kind begins such an operand, or stands before one
abbrev pub IsBegun : State → TokenKind → StartAct → Type 0
IsBegun s k b = (p : OperandPlace) × (sg : Signs) × (s.mode ≡ mode.Want p sg) ×
    (operand_plan (stack_shape s.stack) p (op_sign sg.op) k ≡ Some b)

-- one sign more may stand there
abbrev pub MaySign : OperandMode → Sign → Type 0
MaySign q x = (p : OperandPlace) × (sg : Signs) × (q ≡ mode.Want p sg) ×
    IsTrue (may_sign (op_sign sg.op) x)

-- a list may end there
abbrev pub MayEndList : List Frame → Type 0
MayEndList st = (p : OperandPlace) × (c : Closing) × IsTrue (list_may_end (stack_shape st) p c)

-- behind words that have ended
abbrev pub HasEndedWords : OperandMode → Type 0
HasEndedWords q = (p : OperandPlace) × (sg : Signs) × (w : WordsState) × (q ≡ mode.Word p sg w) ×
    IsTrue (is_some (words_end w))

-- and are a path
abbrev pub HasPath : OperandMode → Type 0
HasPath q = (p : OperandPlace) × (sg : Signs) × (x : Path) ×
    (q ≡ mode.Word p sg (words.Path (path.Have x)))

-- and are an entity
abbrev pub HasEntity : OperandMode → Type 0
HasEntity q = (p : OperandPlace) × (sg : Signs) × (e : Entity) ×
    (q ≡ mode.Word p sg (words.Entity e))

-- behind an operand
abbrev pub HasOperand : OperandMode → Type 0
HasOperand q = (m : Operand) × (q ≡ mode.Have m None)

-- a token of this class may stand behind it
abbrev pub IsFollowed : State → FollowClass → Type 0
IsFollowed s o = (m : Operand) × (s.mode ≡ mode.Have m None) × (r : FollowSet) ×
    IsTrue (may_follow (stack_shape s.stack) (relation_shape s.levels.relation) r o)

-- and have become this operand
abbrev pub IsReduced : List ℕ → State → State → Type 0
IsReduced src s q = (m : Operand) × (last_operand src named_reader s.stack s.mode ≡ Some m) ×
    (q.mode ≡ mode.Have m None) × (q.levels ≡ s.levels)

-- the newest bracket is a record's
abbrev pub HasRecord : List Frame → Type 0
HasRecord st = (f : Record) × (rest : List Frame) × (st ≡ frame.Record f ∷ rest)

-- which left side is begun

abbrev pub IsCommon : Option PendingRelation → Type 0
IsCommon l = (p : PendingChain Add RelOp) × (l ≡ Some (left.Common p))

abbrev pub IsTyped : Option PendingRelation → Type 0
IsTyped l = (y : Spanned (Cell Add)) × (l ≡ Some (left.Is y))

abbrev pub IsSided : Option PendingRelation → Type 0
IsSided l = (x : SideWord) × (y : Spanned (Cell Add)) × (l ≡ Some (side_of x y))

abbrev pub IsWithin : Option PendingRelation → Type 0
IsWithin l = (y z : Cell Add) × (e : Option Extent) × (l ≡ Some (left.IsIn y z e))

-- comparisons with their last sum
abbrev pub compared : List ℕ → PendingOperators → PendingChain Add RelOp → Operand
    → PendingOperators
compared src lv p m = record lv {
  relation = Some (left.Common record {
    chain = marked_chain src (Some p) (add_at src lv m);
    op = p.op;
  });
}

-- a chain of `&&` with its last relation, and one of `||` with its last conjunction

abbrev pub conjoined : List ℕ → PendingOperators → Operand → PendingOperators
conjoined src lv m = levels_of lv.branches lv.or
    (Some (plain_chain src lv.and (relation_at src lv m))) None None None

abbrev pub disjoined : List ℕ → PendingOperators → Operand → PendingOperators
disjoined src lv m = levels_of lv.branches
    (Some (plain_chain src lv.or (and_at src lv m))) None None None None

-- the bytes of a chain
abbrev pub chain_extent : {T : Type 0} → Option (Plain T) → Option Extent
chain_extent (Some c) = c.extent
chain_extent None = None

-- and which levels are not

abbrev pub HasNoSum : PendingOperators → Type 0
HasNoSum lv = (lv.add ≡ None) × (lv.mult ≡ None)

abbrev pub HasNoRelation : PendingOperators → Type 0
HasNoRelation lv = (lv.relation ≡ None) × (lv.add ≡ None) × (lv.mult ≡ None)

-- the signs before an operand
abbrev pub mode_signs : OperandMode → Signs
mode_signs (mode.Want p sg) = sg
mode_signs (mode.Word p sg w) = sg
mode_signs (mode.Have m d) = m.signs

-- the bytes of a path that has ended
abbrev pub words_extent : OperandMode → Option Extent
words_extent (mode.Word p sg (words.Path (path.Have x))) = Some (path_extent x)
words_extent _ = None

-- behind words that have ended: they become the operand that they are
abbrev pub words_reduced : List ℕ → List Frame → PendingOperators → OperandMode → Option State
words_reduced src st lv (mode.Word p sg w) =
    option_image (λ x. has_operand st lv (named_operand src sg x)) (named_reader.finish src w)
words_reduced src st lv _ = None

abbrev pub reduced : List ℕ → State → Option State
reduced src s = words_reduced src s.stack s.levels s.mode

-- what a token of a class makes of a state behind an operand
abbrev pub operand_followed : List ℕ → List Frame → PendingOperators → OperandMode → FollowClass
    → Extent → Option State
operand_followed src st lv (mode.Have m None) o e = follow_act src st lv m o e
operand_followed src st lv _ o e = None

abbrev pub followed : List ℕ → State → FollowClass → Extent → Option State
followed src s o e = operand_followed src s.stack s.levels s.mode o e

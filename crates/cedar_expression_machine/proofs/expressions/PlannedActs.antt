-- What the plan of each act says of a state of the machine of expressions that reads words.
use Rattle.std.proofs.Common.{◌≡◌, refl, sym, ap, ◌∙◌, Bool, true, IsTrue, List, [], ◌∷◌, Option, Some, None}
use Rattle.cedar_lexer.specs.declared.token.TokenKind.{TokenKind}
use Rattle.cedar_syntax.specs.tokens.Tokens.{any_of}
use Rattle.cedar_syntax.specs.declared.cst.Ident.{Ident}
use Rattle.cedar_grammar.specs.declared.reading.class.StartClass.{StartClass}
use Rattle.cedar_grammar.specs.declared.reading.class.StartClass.TheVariants as beginning
use Rattle.cedar_grammar.specs.declared.reading.class.FollowClass.{FollowClass}
use Rattle.cedar_grammar.specs.declared.reading.extent.Extent.{Extent}
use Rattle.cedar_grammar.specs.machines.Classes.{start_class}
use Rattle.cedar_grammar.specs.machines.Machine.{is_some, option_image}
use Rattle.cedar_expression_machine.specs.declared.words.state.Path.{Path}
use Rattle.cedar_expression_machine.specs.declared.words.state.PathState.TheVariants as path
use Rattle.cedar_expression_machine.specs.declared.words.state.WordsAct.{WordsAct}
use Rattle.cedar_expression_machine.specs.declared.words.state.WordsState.{WordsState}
use Rattle.cedar_expression_machine.specs.declared.words.state.WordsState.TheVariants as words
use Rattle.cedar_expression_machine.specs.declared.expression.state.Act.{Act}
use Rattle.cedar_expression_machine.specs.declared.expression.state.Act.TheVariants as act
use Rattle.cedar_expression_machine.specs.declared.expression.state.StartAct.{StartAct}
use Rattle.cedar_expression_machine.specs.declared.expression.state.Frame.{Frame}
use Rattle.cedar_expression_machine.specs.declared.expression.state.Frame.TheVariants as frame
use Rattle.cedar_expression_machine.specs.declared.expression.state.OperandMode.{OperandMode}
use Rattle.cedar_expression_machine.specs.declared.expression.state.OperandMode.TheVariants as mode
use Rattle.cedar_expression_machine.specs.declared.expression.state.Operand.{Operand}
use Rattle.cedar_expression_machine.specs.declared.expression.state.OperandPlace.{OperandPlace}
use Rattle.cedar_expression_machine.specs.declared.expression.state.OperandPlace.TheVariants as place
use Rattle.cedar_expression_machine.specs.declared.expression.state.FollowSet.{FollowSet}
use Rattle.cedar_expression_machine.specs.declared.expression.state.Signs.{Signs}
use Rattle.cedar_expression_machine.specs.declared.expression.state.State.{State}
use Rattle.cedar_expression_machine.specs.declared.expression.state.StartSymbol.{StartSymbol}
use Rattle.cedar_expression_machine.specs.declared.expression.state.StartSymbol.TheVariants as form
use Rattle.cedar_expression_machine.specs.machines.Closing.{no_signs}
use Rattle.cedar_expression_machine.specs.machines.ExpressionModes.{HasEndedWords, HasPath, HasRecord, IsBegun, IsFollowed}
use Rattle.cedar_expression_machine.specs.machines.ExpressionPlans.{behind_plan, begin_plan, class_plan, colon_key_plan, may_follow, mode_plan, operand_class_plan, operand_plan, shape_plan}
use Rattle.cedar_expression_machine.specs.machines.ExpressionShapes.{FrameShape, RelationShape, relation_shape, mode_shape, op_sign, stack_shape}
use Rattle.cedar_expression_machine.specs.machines.ExpressionStates.{opening}
use Rattle.cedar_expression_machine.specs.machines.NamedShapes.{named_outline}
use Rattle.cedar_expression_machine.specs.machines.WholeExpressions.{IsPlanned, state_shape}
use Rattle.cedar_expression_machine.specs.machines.WordShapes.{words_plan, words_shape}
use Rattle.cedar_expression_machine.specs.machines.Words.{words_end}
use Rattle.cedar_expression_machine.proofs.expressions.Planned.{PlannedBehindWords, guarded, image_of, is_behind, keyed, on, planned_behind_words, reduced}

-- ---- words that have ended

ended : (s : WordsState) (b : Bool) →
    option_image named_outline.is_if (named_outline.outline.finish (words_shape s)) ≡ Some b →
    IsTrue (is_some (words_end s))
ended (words.Path path.Start) b e = cc
ended (words.Path (path.Have x)) b e = refl
ended (words.Path (path.Behind x)) b e = cc
ended (words.Inits x) b e = cc
ended (words.Entity x) b e = refl

-- the word `if` alone is a path
if_is_path : (s : WordsState) →
    option_image named_outline.is_if (named_outline.outline.finish (words_shape s)) ≡ Some true →
    (x : Path) × (s ≡ words.Path (path.Have x))
if_is_path (words.Path path.Start) e = cc
if_is_path (words.Path (path.Have x)) e = (x, refl)
if_is_path (words.Path (path.Behind x)) e = cc
if_is_path (words.Inits x) e = cc
if_is_path (words.Entity x) e = cc

record_on_top : (st : List Frame) → colon_key_plan (stack_shape st) ≡ Some act.Key → HasRecord st
record_on_top [] e = cc
record_on_top (frame.Record f ∷ st) e = (f, st, refl)
record_on_top (_ ∷ st) e = cc

-- ---- the acts, by the mode

module _ (w : StartSymbol) (st : List FrameShape) (l : RelationShape) (k : TokenKind) where
  -- what is planned in this mode
  abbrev Plans : OperandMode → Act → Type 0
  Plans q a = mode_plan w named_outline st l (mode_shape words_shape q) k ≡ Some a

  -- what is planned behind words
  abbrev Behind : WordsState → Act → Type 0
  Behind s a = PlannedBehindWords w named_outline st l (words_shape s) k a

  behind : (p : OperandPlace) (sg : Signs) (s : WordsState) (a : Act) → Plans (mode.Word p sg s) a →
      Behind s a
  behind p sg s a e = planned_behind_words w named_outline st l (words_shape s) p k a e

  no_begin : (s : WordsState) (b : StartAct) → Behind s (act.Begin b) → ⊥
  no_begin s b h = elim h [ ]

  no_field : (s : WordsState) → Behind s act.Field → ⊥
  no_field s h = elim h [ ]

  no_follow : (s : WordsState) (o : FollowClass) → Behind s (act.Follow o) → ⊥
  no_follow s o h = elim h [ ]

  begins : (q : OperandMode) (b : StartAct) → Plans q (act.Begin b) →
      (p : OperandPlace) × (sg : Signs) × (q ≡ mode.Want p sg) × (operand_plan st p (op_sign sg.op) k ≡ Some b)
  begins (mode.Want p sg) b e =
      let i = image_of (λ x. act.Begin x) (operand_plan st p (op_sign sg.op) k) (act.Begin b) e in
      let j : i.0 ≡ b = cc in
      (p, sg, refl, i.1 ∙ ap (λ x. Some x) j)
  begins (mode.Word p sg s) b e = absurd (no_begin s b (behind p sg s (act.Begin b) e))
  begins (mode.Have m (Some d)) b e =
      let i = image_of (λ x. act.Field) (any_of k []) (act.Begin b) e in
      let j : act.Field ≡ act.Begin b = i.2 in cc
  begins (mode.Have m None) b e =
      let i = image_of (λ x. act.Follow x) (behind_plan w st l m.is_if k) (act.Begin b) e in
      let j : act.Follow i.0 ≡ act.Begin b = i.2 in cc

  goes_on : (q : OperandMode) (a : WordsAct) → Plans q (act.Words a) →
      (p : OperandPlace) × (sg : Signs) × (s : WordsState) × (q ≡ mode.Word p sg s) ×
      (words_plan (words_shape s) k ≡ Some a)
  goes_on (mode.Want p sg) a e =
      let i = image_of (λ x. act.Begin x) (operand_plan st p (op_sign sg.op) k) (act.Words a) e in
      let j : act.Begin i.0 ≡ act.Words a = i.2 in cc
  goes_on (mode.Word p sg s) a e =
      elim (behind p sg s (act.Words a) e) [ on h ↦ (p, sg, s, refl, h) ]
  goes_on (mode.Have m (Some d)) a e =
      let i = image_of (λ x. act.Field) (any_of k []) (act.Words a) e in
      let j : act.Field ≡ act.Words a = i.2 in cc
  goes_on (mode.Have m None) a e =
      let i = image_of (λ x. act.Follow x) (behind_plan w st l m.is_if k) (act.Words a) e in
      let j : act.Follow i.0 ≡ act.Words a = i.2 in cc

  reduces : (q : OperandMode) (o : FollowClass) → Plans q (act.Reduce o) →
      HasEndedWords q × ((r : FollowSet) × IsTrue (may_follow st l r o))
  reduces (mode.Want p sg) o e =
      let i = image_of (λ x. act.Begin x) (operand_plan st p (op_sign sg.op) k) (act.Reduce o) e in
      let j : act.Begin i.0 ≡ act.Reduce o = i.2 in cc
  reduces (mode.Word p sg s) o e = elim (behind p sg s (act.Reduce o) e)
      [ reduced {b = b} h f ↦ ((p, sg, s, refl, ended s b h), is_behind w st l b k o f) ]
  reduces (mode.Have m (Some d)) o e =
      let i = image_of (λ x. act.Field) (any_of k []) (act.Reduce o) e in
      let j : act.Field ≡ act.Reduce o = i.2 in cc
  reduces (mode.Have m None) o e =
      let i = image_of (λ x. act.Follow x) (behind_plan w st l m.is_if k) (act.Reduce o) e in
      let j : act.Follow i.0 ≡ act.Reduce o = i.2 in cc

  as_path : (p : OperandPlace) (sg : Signs) (s : WordsState) →
      option_image named_outline.is_if (named_outline.outline.finish (words_shape s)) ≡ Some true →
      HasPath (mode.Word p sg s)
  as_path p sg s h = let i = if_is_path s h in (p, sg, i.0, ap (λ x. mode.Word p sg x) i.1)

  guards : (q : OperandMode) (b : StartAct) → Plans q (act.Guard b) → HasPath q × (begin_plan k ≡ Some b)
  guards (mode.Want p sg) b e =
      let i = image_of (λ x. act.Begin x) (operand_plan st p (op_sign sg.op) k) (act.Guard b) e in
      let j : act.Begin i.0 ≡ act.Guard b = i.2 in cc
  guards (mode.Word p sg s) b e =
      elim (behind p sg s (act.Guard b) e) [ guarded h f ↦ (as_path p sg s h, f) ]
  guards (mode.Have m (Some d)) b e =
      let i = image_of (λ x. act.Field) (any_of k []) (act.Guard b) e in
      let j : act.Field ≡ act.Guard b = i.2 in cc
  guards (mode.Have m None) b e =
      let i = image_of (λ x. act.Follow x) (behind_plan w st l m.is_if k) (act.Guard b) e in
      let j : act.Follow i.0 ≡ act.Guard b = i.2 in cc

  keys : (q : OperandMode) → Plans q act.Key → HasPath q × (colon_key_plan st ≡ Some act.Key)
  keys (mode.Want p sg) e =
      let i = image_of (λ x. act.Begin x) (operand_plan st p (op_sign sg.op) k) act.Key e in
      let j : act.Begin i.0 ≡ act.Key = i.2 in cc
  keys (mode.Word p sg s) e =
      elim (behind p sg s act.Key e) [ keyed h f ↦ (as_path p sg s h, f) ]
  keys (mode.Have m (Some d)) e =
      let i = image_of (λ x. act.Field) (any_of k []) act.Key e in
      let j : act.Field ≡ act.Key = i.2 in cc
  keys (mode.Have m None) e =
      let i = image_of (λ x. act.Follow x) (behind_plan w st l m.is_if k) act.Key e in
      let j : act.Follow i.0 ≡ act.Key = i.2 in cc

  fields : (q : OperandMode) → Plans q act.Field → (m : Operand) × (d : Extent) × (i : Ident) ×
      (q ≡ mode.Have m (Some d)) × (any_of k [] ≡ Some i)
  fields (mode.Want p sg) e =
      let i = image_of (λ x. act.Begin x) (operand_plan st p (op_sign sg.op) k) act.Field e in
      let j : act.Begin i.0 ≡ act.Field = i.2 in cc
  fields (mode.Word p sg s) e = absurd (no_field s (behind p sg s act.Field e))
  fields (mode.Have m (Some d)) e =
      let i = image_of (λ x. act.Field) (any_of k []) act.Field e in
      (m, d, i.0, refl, i.1)
  fields (mode.Have m None) e =
      let i = image_of (λ x. act.Follow x) (behind_plan w st l m.is_if k) act.Field e in
      let j : act.Follow i.0 ≡ act.Field = i.2 in cc

  follows : (q : OperandMode) (o : FollowClass) → Plans q (act.Follow o) →
      (m : Operand) × (q ≡ mode.Have m None) × (r : FollowSet) × IsTrue (may_follow st l r o)
  follows (mode.Want p sg) o e =
      let i = image_of (λ x. act.Begin x) (operand_plan st p (op_sign sg.op) k) (act.Follow o) e in
      let j : act.Begin i.0 ≡ act.Follow o = i.2 in cc
  follows (mode.Word p sg s) o e = absurd (no_follow s o (behind p sg s (act.Follow o) e))
  follows (mode.Have m (Some d)) o e =
      let i = image_of (λ x. act.Field) (any_of k []) (act.Follow o) e in
      let j : act.Field ≡ act.Follow o = i.2 in cc
  follows (mode.Have m None) o e =
      let i = image_of (λ x. act.Follow x) (behind_plan w st l m.is_if k) (act.Follow o) e in
      let j : i.0 ≡ o = cc in
      let h = is_behind w st l m.is_if k o (i.1 ∙ ap (λ x. Some x) j) in
      (m, refl, h.0, h.1)

-- ---- the same of a state

module _ (s : State) (k : TokenKind) where
  pub is_begun : (b : StartAct) → IsPlanned s k (act.Begin b) → IsBegun s k b
  is_begun b h =
      begins h.0 (stack_shape s.stack) (relation_shape s.levels.relation) k s.mode b h.1

  pub words_go_on : (a : WordsAct) → IsPlanned s k (act.Words a) →
      (p : OperandPlace) × (sg : Signs) × (x : WordsState) × (s.mode ≡ mode.Word p sg x) ×
      (words_plan (words_shape x) k ≡ Some a)
  words_go_on a h =
      goes_on h.0 (stack_shape s.stack) (relation_shape s.levels.relation) k s.mode a h.1

  pub words_reduce : (o : FollowClass) → IsPlanned s k (act.Reduce o) → HasEndedWords s.mode ×
      ((r : FollowSet) × IsTrue (may_follow (stack_shape s.stack) (relation_shape s.levels.relation) r o))
  words_reduce o h =
      reduces h.0 (stack_shape s.stack) (relation_shape s.levels.relation) k s.mode o h.1

  pub words_guard : (b : StartAct) → IsPlanned s k (act.Guard b) →
      HasPath s.mode × (begin_plan k ≡ Some b)
  words_guard b h =
      guards h.0 (stack_shape s.stack) (relation_shape s.levels.relation) k s.mode b h.1

  pub is_key : IsPlanned s k act.Key → HasPath s.mode × HasRecord s.stack
  is_key h =
      let i = keys h.0 (stack_shape s.stack) (relation_shape s.levels.relation) k s.mode h.1 in
      (i.0, record_on_top s.stack i.1)

  pub is_field : IsPlanned s k act.Field → (m : Operand) × (d : Extent) × (i : Ident) ×
      (s.mode ≡ mode.Have m (Some d)) × (any_of k [] ≡ Some i)
  is_field h =
      fields h.0 (stack_shape s.stack) (relation_shape s.levels.relation) k s.mode h.1

  pub is_followed : (o : FollowClass) → IsPlanned s k (act.Follow o) → IsFollowed s o
  is_followed o h =
      follows h.0 (stack_shape s.stack) (relation_shape s.levels.relation) k s.mode o h.1

-- what begins a guard may begin there
class_begun : (st : List FrameShape) (c : StartClass) (b : StartAct) → class_plan c ≡ Some b →
    operand_class_plan st place.Expr None c ≡ Some b
class_begun st beginning.Word b e = e
class_begun st beginning.Number b e = e
class_begun st beginning.String b e = e
class_begun st (beginning.Slot x) b e = e
class_begun st (beginning.Sign x) b e = e
class_begun st beginning.Paren b e = e
class_begun st beginning.Bracket b e = e
class_begun st beginning.Brace b e = e
class_begun st (beginning.Ends c) b e = cc
class_begun st beginning.Other b e = cc

pub guard_begun : (st : List Frame) (k : TokenKind) (b : StartAct) → begin_plan k ≡ Some b →
    IsBegun (opening st [] place.Expr) k b
guard_begun st k b e =
    (place.Expr, no_signs, refl, class_begun (stack_shape st) (start_class k) b e)

-- ---- before the first token

first_of_class : (c : StartClass) → operand_class_plan [] place.Expr None c ≡ class_plan c
first_of_class beginning.Word = refl
first_of_class beginning.Number = refl
first_of_class beginning.String = refl
first_of_class (beginning.Slot x) = refl
first_of_class (beginning.Sign x) = refl
first_of_class beginning.Paren = refl
first_of_class beginning.Bracket = refl
first_of_class beginning.Brace = refl
first_of_class (beginning.Ends c) = refl
first_of_class beginning.Other = refl

pub first_planned : (k : TokenKind) → option_image (λ b. act.Begin b) (begin_plan k) ≡
    shape_plan form.Expr named_outline (state_shape (opening [] [] place.Expr)) k
first_planned k = ap (λ (o : Option StartAct). option_image (λ b. act.Begin b) o) (sym (first_of_class (start_class k)))

-- of a sum
first_of_sum : (c : StartClass) → operand_class_plan [] place.Operand None c ≡ class_plan c
first_of_sum beginning.Word = refl
first_of_sum beginning.Number = refl
first_of_sum beginning.String = refl
first_of_sum (beginning.Slot x) = refl
first_of_sum (beginning.Sign x) = refl
first_of_sum beginning.Paren = refl
first_of_sum beginning.Bracket = refl
first_of_sum beginning.Brace = refl
first_of_sum (beginning.Ends c) = refl
first_of_sum beginning.Other = refl

pub first_of_sum_planned : (k : TokenKind) → option_image (λ b. act.Begin b) (begin_plan k) ≡
    shape_plan form.Sum named_outline (state_shape (opening [] [] place.Operand)) k
first_of_sum_planned k = ap (λ (o : Option StartAct). option_image (λ b. act.Begin b) o) (sym (first_of_sum (start_class k)))

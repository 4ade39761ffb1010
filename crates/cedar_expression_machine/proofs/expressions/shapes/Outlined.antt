-- The readers of expressions, of sums and of primaries have their outline, over any words that
-- have theirs.
use Rattle.std.proofs.Common.{◌≡◌, ℕ, List, [], ◌∷◌, Option, Some, None, Bool, true, false, cond, refl, sym, ◌∙◌, ap, subst, IfSome}
use Rattle.cedar_lexer.specs.Token.{Lexeme}
use Rattle.cedar_lexer.specs.declared.token.TokenKind.{TokenKind}
use Rattle.cedar_lexer.specs.declared.token.TokenKind.TheVariants as kind
use Rattle.cedar_syntax.specs.declared.cst.Name.{Name}
use Rattle.cedar_grammar.specs.declared.reading.class.FollowClass.{FollowClass}
use Rattle.cedar_expression_machine.specs.declared.words.state.WordsState.{WordsState}
use Rattle.cedar_expression_machine.specs.declared.words.state.WordsAct.{WordsAct}
use Rattle.cedar_expression_machine.specs.declared.expression.state.Act.{Act}
use Rattle.cedar_expression_machine.specs.declared.expression.state.Act.TheVariants as act
use Rattle.cedar_expression_machine.specs.declared.expression.state.SingleWord.{SingleWord}
use Rattle.cedar_expression_machine.specs.declared.expression.state.SingleWord.TheVariants as single
use Rattle.cedar_expression_machine.specs.declared.expression.state.PendingOperators.{PendingOperators}
use Rattle.cedar_expression_machine.specs.declared.expression.state.Signs.{Signs}
use Rattle.cedar_expression_machine.specs.declared.expression.state.Spanned.{Spanned}
use Rattle.cedar_expression_machine.specs.declared.expression.state.Frame.{Frame}
use Rattle.cedar_expression_machine.specs.declared.expression.state.Frame.TheVariants as frame
use Rattle.cedar_expression_machine.specs.declared.expression.state.OperandMode.{OperandMode}
use Rattle.cedar_expression_machine.specs.declared.expression.state.OperandMode.TheVariants as mode
use Rattle.cedar_expression_machine.specs.declared.expression.state.OperandPlace.{OperandPlace}
use Rattle.cedar_expression_machine.specs.declared.expression.state.OperandPlace.TheVariants as place
use Rattle.cedar_expression_machine.specs.declared.expression.state.State.{State}
use Rattle.cedar_expression_machine.specs.declared.expression.state.StartSymbol.{StartSymbol}
use Rattle.cedar_expression_machine.specs.declared.expression.state.StartSymbol.TheVariants as form
use Rattle.cedar_grammar.specs.grammar.Place.{extent_of}
use Rattle.cedar_syntax.specs.tokens.Tokens.{any_of}
use Rattle.cedar_grammar.specs.machines.Machine.{is_some, option_image, IsOutline, no_tree, ends_with}
use Rattle.cedar_expression_machine.specs.machines.Closing.{fresh, no_signs, add_at, whole}
use Rattle.cedar_expression_machine.specs.machines.Named.{NameOrEntity}
use Rattle.cedar_expression_machine.specs.machines.Named as named
use Rattle.cedar_expression_machine.specs.machines.Having.{field_reading, follow_act}
use Rattle.cedar_expression_machine.specs.machines.Expressions.{single_word, single_word_is_if, named_is_if, single_word_operand, named_operand, named_extent, with_words, guard_beginning, if_key_reading, word_act, mode_act, named_at_end, last_operand, expr_at_end, sum_at_end, primary_at_end, symbol_reader, expression_reader, sum_reader, primary_reader}
use Rattle.cedar_expression_machine.specs.machines.ExpressionShapes.{in_record, worded, relation_shape, stack_shape, op_sign, mode_shape, shape_of, WordOutline}
use Rattle.cedar_expression_machine.specs.machines.ExpressionPlans.{behind_plan, begin_plan, operand_plan, guard_plan, reduce_plan, colon_key_plan, key_plan, if_plan, ended_words_plan, or_else, word_plan, mode_plan, if_ends, words_can_end, ends, shape_ends}
use Rattle.cedar_expression_machine.specs.machines.ExpressionOutline.{operand_had, follow_shape, ended_if, mode_act_shape, expression_outline}
use Rattle.cedar_grammar.proofs.machines.Laws.{if_some, image_some}
use Rattle.cedar_expression_machine.proofs.expressions.Held.{Held}
use Rattle.cedar_expression_machine.proofs.expressions.shapes.Done.{Names, BeginWithIdents, Acted, planned_as, Begins, words_acted, wanted_acted, first_wanted_acted, follow_acted, field_acted}

-- what an act of this mode owes
abbrev ModeActed : {W K : Type 0} → (WordsState → W) → List ℕ → Names → WordOutline W K → List Frame → PendingOperators → OperandMode → Lexeme → Act → Type 0
ModeActed f src names n st lv m t a = Acted f t (mode_act_shape n (stack_shape st) (relation_shape lv.relation) (mode_shape f m) a t.kind) (mode_act src names st lv m a t)

-- ---- behind words that have ended

alone_if : (src : List ℕ) (sg : Signs) (x : Spanned Name) (a : SingleWord) → single_word_is_if a ≡ (single_word_operand src sg x a).is_if
alone_if src sg x single.True = refl
alone_if src sg x single.False = refl
alone_if src sg x single.If = refl
alone_if src sg x single.Name = refl

named_if : (src : List ℕ) (sg : Signs) (x : NameOrEntity) → named_is_if x ≡ (named_operand src sg x).is_if
named_if src sg (named.path x) = alone_if src sg x (single_word x.tree.path x.tree.name)
named_if src sg (named.entity x) = refl

-- whether they are the word `if` is told by their outline
ended_as : {W K : Type 0} {src : List ℕ} {names : Names} {n : WordOutline W K} {f : WordsState → W} {g : NameOrEntity → K} → Held src names n f g → (sg : Signs) (s : WordsState) (x : NameOrEntity) → names.finish src s ≡ Some x →
    ended_if n (n.outline.finish (f s)) ≡ (named_operand src sg x).is_if
ended_as {src = src} {n = n} {g = g} h sg s x e = ap (λ q. ended_if n q) (h.outlined.finishes s ∙ ap (λ o. option_image g o) e) ∙ (h.ifs x ∙ named_if src sg x)

-- they are an operand
reduced : {W K : Type 0} {src : List ℕ} {names : Names} {n : WordOutline W K} {f : WordsState → W} {g : NameOrEntity → K} → Held src names n f g → (w : StartSymbol) (st : List Frame) (lv : PendingOperators) (p : OperandPlace) (sg : Signs) (s : WordsState) (x : NameOrEntity) (b : Bool) (t : Lexeme) → names.finish src s ≡ Some x →
    IfSome (reduce_plan (behind_plan w (stack_shape st) (relation_shape lv.relation) b t.kind)) (λ a. ModeActed f src names n st lv (mode.Word p sg s) t a)
reduced {src = src} {names = names} {n = n} {f = f} h w st lv p sg s x b t e =
    planned_as (λ o. act.Reduce o) (λ o. Acted f t (follow_shape (stack_shape st) (relation_shape lv.relation) (named_operand src sg x).is_if o) (follow_act src st lv (named_operand src sg x) o (extent_of t)))
    (λ a. ModeActed f src names n st lv (mode.Word p sg s) t a) reduces (behind_plan w (stack_shape st) (relation_shape lv.relation) b t.kind) (follow_acted f src w st lv (named_operand src sg x) b t)
  where
    reduces : (o : FollowClass) → Acted f t (follow_shape (stack_shape st) (relation_shape lv.relation) (named_operand src sg x).is_if o) (follow_act src st lv (named_operand src sg x) o (extent_of t)) → ModeActed f src names n st lv (mode.Word p sg s) t (act.Reduce o)
    reduces o i = subst (λ c. Acted f t (follow_shape (stack_shape st) (relation_shape lv.relation) c o) (word_act src names st lv p sg s (act.Reduce o) t)) (sym (ended_as h sg s x e))
        (subst (λ q. Acted f t (follow_shape (stack_shape st) (relation_shape lv.relation) (named_operand src sg x).is_if o) (with_words q (λ x. follow_act src st lv (named_operand src sg x) o (extent_of t)))) (sym e) i)

abbrev guard_frame : PendingOperators → NameOrEntity → Frame
guard_frame lv x = frame.Guard record { branches = lv.branches; opened = named_extent x }

-- they are `if`, and the guard begins
guarded : {W K : Type 0} {src : List ℕ} {names : Names} {n : WordOutline W K} {f : WordsState → W} {g : NameOrEntity → K} → Held src names n f g → BeginWithIdents names → (st : List Frame) (lv : PendingOperators) (p : OperandPlace) (sg : Signs) (s : WordsState) (x : NameOrEntity) (t : Lexeme) → names.finish src s ≡ Some x →
    IfSome (guard_plan t.kind) (λ a. ModeActed f src names n st lv (mode.Word p sg s) t a)
guarded {src = src} {names = names} {n = n} {f = f} h i st lv p sg s x t e =
    planned_as (λ b. act.Guard b) (λ b. Begins f src names n (guard_frame lv x ∷ st) (fresh []) place.Expr no_signs t b) (λ a. ModeActed f src names n st lv (mode.Word p sg s) t a)
    (λ b j. subst (λ q. Acted f t (mode_act_shape n (stack_shape st) (relation_shape lv.relation) (worded p (f s)) (act.Guard b) t.kind) (with_words q (λ x. guard_beginning src names st lv (named_extent x) b t))) (sym e) j)
    (begin_plan t.kind) (first_wanted_acted h i (guard_frame lv x ∷ st) t)

-- they are `if` as a key
key_acted : {W K : Type 0} (f : WordsState → W) (src : List ℕ) (names : Names) (n : WordOutline W K) (st : List Frame) (lv : PendingOperators) (p : OperandPlace) (sg : Signs) (s : WordsState) (x : NameOrEntity) (t : Lexeme) → names.finish src s ≡ Some x → t.kind ≡ kind.Colon →
    IfSome (colon_key_plan (stack_shape st)) (λ a. ModeActed f src names n st lv (mode.Word p sg s) t a)
key_acted {W = W} f src names n (frame.Record q ∷ st) lv p sg s x t e k = go (is_some q.key)
  where
    no_number : t.kind ≡ kind.Number → ⊥
    no_number i = cc

    -- only where no key is begun; what is made of the state doesn't hang on that
    go : (b : Bool) → IfSome (colon_key_plan (in_record (relation_shape q.outer.relation) b ∷ stack_shape st)) (λ a. ModeActed f src names n (frame.Record q ∷ st) lv (mode.Word p sg s) t a)
    go true = tt
    go false = subst (λ o. Acted f t (mode_act_shape n (stack_shape (frame.Record q ∷ st)) (relation_shape lv.relation) (worded p (f s)) act.Key t.kind) (with_words o (λ x. if_key_reading src (frame.Record q ∷ st) (named_extent x) (extent_of t)))) (sym e) ((λ i. absurd (no_number i)), refl)
key_acted f src names n [] lv p sg s x t e k = tt
key_acted f src names n (_ ∷ st) lv p sg s x t e k = tt

-- a colon behind them ends the key, if a key may stand there
key_or_guard : {W K : Type 0} {src : List ℕ} {names : Names} {n : WordOutline W K} {f : WordsState → W} {g : NameOrEntity → K} → Held src names n f g → BeginWithIdents names → (st : List Frame) (lv : PendingOperators) (p : OperandPlace) (sg : Signs) (s : WordsState) (x : NameOrEntity) (t : Lexeme) → names.finish src s ≡ Some x →
    (k : TokenKind) → t.kind ≡ k → IfSome (key_plan (stack_shape st) k) (λ a. ModeActed f src names n st lv (mode.Word p sg s) t a)
key_or_guard {src = src} {names = names} {n = n} {f = f} h i st lv p sg s x t e kind.Colon j = key_acted f src names n st lv p sg s x t e j
key_or_guard {src = src} {names = names} {n = n} {f = f} h i st lv p sg s x t e k j = subst (λ k. IfSome (guard_plan k) (λ a. ModeActed f src names n st lv (mode.Word p sg s) t a)) j (guarded h i st lv p sg s x t e)

if_acted : {W K : Type 0} {src : List ℕ} {names : Names} {n : WordOutline W K} {f : WordsState → W} {g : NameOrEntity → K} → Held src names n f g → BeginWithIdents names → (w : StartSymbol) (st : List Frame) (lv : PendingOperators) (p : OperandPlace) (sg : Signs) (s : WordsState) (x : NameOrEntity) (t : Lexeme) → names.finish src s ≡ Some x →
    IfSome (if_plan w (stack_shape st) (relation_shape lv.relation) p t.kind) (λ a. ModeActed f src names n st lv (mode.Word p sg s) t a)
if_acted h i w st lv place.Expr sg s x t e = guarded h i st lv place.Expr sg s x t e
if_acted h i w st lv place.Item sg s x t e = guarded h i st lv place.Item sg s x t e
if_acted h i w st lv place.Key sg s x t e = key_or_guard h i st lv place.Key sg s x t e t.kind refl
if_acted h i w st lv place.Has sg s x t e = reduced h w st lv place.Has sg s x true t e
if_acted h i w st lv place.Operand sg s x t e = tt
if_acted h i w st lv place.Primary sg s x t e = tt

ended_acted : {W K : Type 0} {src : List ℕ} {names : Names} {n : WordOutline W K} {f : WordsState → W} {g : NameOrEntity → K} → Held src names n f g → BeginWithIdents names → (w : StartSymbol) (st : List Frame) (lv : PendingOperators) (p : OperandPlace) (sg : Signs) (s : WordsState) (t : Lexeme) (o : Option NameOrEntity) → names.finish src s ≡ o →
    IfSome (ended_words_plan w (stack_shape st) (relation_shape lv.relation) p (option_image n.is_if (option_image g o)) t.kind) (λ a. ModeActed f src names n st lv (mode.Word p sg s) t a)
ended_acted h i w st lv p sg s t None e = tt
ended_acted {src = src} {names = names} {n = n} {f = f} {g = g} h i w st lv p sg s t (Some x) e = go (n.is_if (g x))
  where
    go : (b : Bool) → IfSome (ended_words_plan w (stack_shape st) (relation_shape lv.relation) p (Some b) t.kind) (λ a. ModeActed f src names n st lv (mode.Word p sg s) t a)
    go true = if_acted h i w st lv p sg s x t e
    go false = reduced h w st lv p sg s x false t e

-- ---- each mode

word_acted : {W K : Type 0} {src : List ℕ} {names : Names} {n : WordOutline W K} {f : WordsState → W} {g : NameOrEntity → K} → Held src names n f g → BeginWithIdents names → (w : StartSymbol) (st : List Frame) (lv : PendingOperators) (p : OperandPlace) (sg : Signs) (s : WordsState) (t : Lexeme) →
    IfSome (word_plan w n (stack_shape st) (relation_shape lv.relation) p (f s) t.kind) (λ a. ModeActed f src names n st lv (mode.Word p sg s) t a)
word_acted {K = K} {src = src} {names = names} {n = n} {f = f} h i w st lv p sg s t =
    subst (λ o. IfSome (or_else (option_image (λ a. act.Words a) o) (ended_plan (n.outline.finish (f s)))) (λ a. ModeActed f src names n st lv (mode.Word p sg s) t a)) (h.outlined.plans s t.kind) (go (names.plan s t.kind) refl)
  where
    ended_plan : Option K → Option Act
    ended_plan o = ended_words_plan w (stack_shape st) (relation_shape lv.relation) p (option_image n.is_if o) t.kind

    go : (o : Option WordsAct) → names.plan s t.kind ≡ o → IfSome (or_else (option_image (λ a. act.Words a) o) (ended_plan (n.outline.finish (f s)))) (λ a. ModeActed f src names n st lv (mode.Word p sg s) t a)
    go (Some a) e = words_acted h st lv p sg s a t e
    go None e = subst (λ o. IfSome (ended_plan o) (λ a. ModeActed f src names n st lv (mode.Word p sg s) t a)) (sym (h.outlined.finishes s)) (ended_acted h i w st lv p sg s t (names.finish src s) refl)

mode_acted : {W K : Type 0} {src : List ℕ} {names : Names} {n : WordOutline W K} {f : WordsState → W} {g : NameOrEntity → K} → Held src names n f g → BeginWithIdents names → (w : StartSymbol) (st : List Frame) (lv : PendingOperators) (m : OperandMode) (t : Lexeme) →
    IfSome (mode_plan w n (stack_shape st) (relation_shape lv.relation) (mode_shape f m) t.kind) (λ a. ModeActed f src names n st lv m t a)
mode_acted {src = src} {names = names} {n = n} {f = f} h i w st lv (mode.Want p sg) t =
    planned_as (λ b. act.Begin b) (λ b. Begins f src names n st lv p sg t b) (λ a. ModeActed f src names n st lv (mode.Want p sg) t a) (λ b j. j) (operand_plan (stack_shape st) p (op_sign sg.op) t.kind) (wanted_acted h i st lv p sg t)
mode_acted h i w st lv (mode.Word p sg s) t = word_acted h i w st lv p sg s t
mode_acted {src = src} {names = names} {n = n} {f = f} h i w st lv (mode.Have m (Some d)) t =
    planned_as (λ x. act.Field) (λ x. Acted f t (operand_had (stack_shape st) (relation_shape lv.relation) m.is_if) (field_reading src st lv m d (any_of t.kind t.text) (extent_of t))) (λ a. ModeActed f src names n st lv (mode.Have m (Some d)) t a) (λ x j. j)
    (any_of t.kind []) (field_acted f src st lv m d t)
mode_acted {src = src} {names = names} {n = n} {f = f} h i w st lv (mode.Have m None) t =
    planned_as (λ o. act.Follow o) (λ o. Acted f t (follow_shape (stack_shape st) (relation_shape lv.relation) m.is_if o) (follow_act src st lv m o (extent_of t))) (λ a. ModeActed f src names n st lv (mode.Have m None) t a) (λ o j. j)
    (behind_plan w (stack_shape st) (relation_shape lv.relation) m.is_if t.kind) (follow_acted f src w st lv m m.is_if t)

-- ---- the end

kept_if : {T : Type 0} (b : Bool) (x : T) → b ≡ is_some (cond b (Some x) None)
kept_if true x = refl
kept_if false x = refl

words_end : {W K : Type 0} {src : List ℕ} {names : Names} {n : WordOutline W K} {f : WordsState → W} {g : NameOrEntity → K} → Held src names n f g → (p : OperandPlace) (sg : Signs) (o : Option NameOrEntity) →
    words_can_end n p (option_image g o) ≡ is_some (with_words o (λ x. named_at_end src p sg x))
words_end h p sg None = refl
words_end {src = src} h p sg (Some x) = ap (λ b. if_ends p b) (h.ifs x) ∙ kept_if (if_ends p (named_is_if x)) (named_operand src sg x)

-- a last operand stands just where the shape can end
last_ends : {W K : Type 0} {src : List ℕ} {names : Names} {n : WordOutline W K} {f : WordsState → W} {g : NameOrEntity → K} → Held src names n f g → (st : List Frame) (m : OperandMode) → ends n (stack_shape st) (mode_shape f m) ≡ is_some (last_operand src names st m)
last_ends h [] (mode.Want p sg) = refl
last_ends {src = src} {names = names} {n = n} h [] (mode.Word p sg s) = ap (λ q. words_can_end n p q) (h.outlined.finishes s) ∙ words_end h p sg (names.finish src s)
last_ends h [] (mode.Have m (Some d)) = refl
last_ends h [] (mode.Have m None) = refl
last_ends h (q ∷ st) m = refl

-- all that the forms above ask of a tree is whether it can end
told_end : {T : Type 0} (o : Option T) → ends_with (is_some o) ≡ option_image no_tree o
told_end (Some x) = refl
told_end None = refl

some_end : (b : Bool) → b ≡ is_some (ends_with b)
some_end true = refl
some_end false = refl

-- ---- the readers

-- whatever tree is made of the last operand
pub outlined_by : {W K T : Type 0} {src : List ℕ} {names : Names} {n : WordOutline W K} {f : WordsState → W} {g : NameOrEntity → K} → Held src names n f g → BeginWithIdents names → (w : StartSymbol) (tree : List ℕ → State → Option T) →
    ((s : State) → is_some (tree src s) ≡ is_some (last_operand src names s.stack s.mode)) → IsOutline src (symbol_reader w names n f tree) (expression_outline w n) (λ s. shape_of f s) no_tree
outlined_by {src = src} {names = names} {n = n} {f = f} h i w tree e = record {
  starts = refl;
  plans = λ s k. refl;
  acts = λ s q a t j k. if_some (λ q. shape_of f q ≡ (expression_outline w n).act (shape_of f s) a t.kind) (mode_act src names s.stack s.levels s.mode a t) q (acted_at s a t j).1 k;
  done = λ s a t j. (acted_at s a t j).0;
  ends = λ s. some_end (shape_ends n (shape_of f s));
  finishes = λ s. ap (λ b. ends_with b) (last_ends h s.stack s.mode ∙ sym (e s)) ∙ told_end (tree src s);
}
  where
    acted_at : (s : State) (a : Act) (t : Lexeme) → mode_plan w n (stack_shape s.stack) (relation_shape s.levels.relation) (mode_shape f s.mode) t.kind ≡ Some a → ModeActed f src names n s.stack s.levels s.mode t a
    acted_at s a t j = if_some (λ a. ModeActed f src names n s.stack s.levels s.mode t a) (mode_plan w n (stack_shape s.stack) (relation_shape s.levels.relation) (mode_shape f s.mode) t.kind) a (mode_acted h i w s.stack s.levels s.mode t) j

pub expressions_outlined : {W K : Type 0} {src : List ℕ} {names : Names} {n : WordOutline W K} {f : WordsState → W} {g : NameOrEntity → K} → Held src names n f g → BeginWithIdents names →
    IsOutline src (expression_reader names n f) (expression_outline form.Expr n) (λ s. shape_of f s) no_tree
expressions_outlined {src = src} {names = names} h i = outlined_by h i form.Expr (λ src s. expr_at_end src names s) (λ s. image_some (λ m. whole src s.levels m) (last_operand src names s.stack s.mode))

pub sums_outlined : {W K : Type 0} {src : List ℕ} {names : Names} {n : WordOutline W K} {f : WordsState → W} {g : NameOrEntity → K} → Held src names n f g → BeginWithIdents names →
    IsOutline src (sum_reader names n f) (expression_outline form.Sum n) (λ s. shape_of f s) no_tree
sums_outlined {src = src} {names = names} h i = outlined_by h i form.Sum (λ src s. sum_at_end src names s) (λ s. image_some (λ m. add_at src s.levels m) (last_operand src names s.stack s.mode))

pub primaries_outlined : {W K : Type 0} {src : List ℕ} {names : Names} {n : WordOutline W K} {f : WordsState → W} {g : NameOrEntity → K} → Held src names n f g → BeginWithIdents names →
    IsOutline src (primary_reader names n f) (expression_outline form.Primary n) (λ s. shape_of f s) no_tree
primaries_outlined {src = src} {names = names} h i = outlined_by h i form.Primary (λ src s. primary_at_end src names s) (λ s. image_some (λ m. m.member.item) (last_operand src names s.stack s.mode))

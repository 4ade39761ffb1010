-- What is planned where an operand is wanted, in words, behind `.` and behind an operand is done,
-- unless it is a number that doesn't fit, and makes a state of the shape that the outline says.
use Rattle.std.proofs.Common.{◌≡◌, ℕ, List, [], Option, Some, None, Bool, true, false, cond, refl, sym, ◌∙◌, ap, subst, IfSome}
use Rattle.cedar_lexer.specs.Token.{Lexeme}
use Rattle.cedar_lexer.specs.declared.token.TokenKind.{TokenKind}
use Rattle.cedar_lexer.specs.declared.token.TokenKind.TheVariants as kind
use Rattle.cedar_syntax.specs.declared.cst.Ident.{Ident}
use Rattle.cedar_grammar.specs.declared.reading.class.StartClass.{StartClass}
use Rattle.cedar_grammar.specs.declared.reading.class.StartClass.TheVariants as beginning
use Rattle.cedar_expression_machine.specs.declared.words.state.WordsState.{WordsState}
use Rattle.cedar_expression_machine.specs.declared.words.state.WordsAct.{WordsAct}
use Rattle.cedar_expression_machine.specs.declared.expression.state.StartAct.{StartAct}
use Rattle.cedar_expression_machine.specs.declared.expression.state.StartAct.TheVariants as begin
use Rattle.cedar_expression_machine.specs.declared.expression.state.PendingOperators.{PendingOperators}
use Rattle.cedar_expression_machine.specs.declared.expression.state.Signs.{Signs}
use Rattle.cedar_expression_machine.specs.declared.expression.state.Operand.{Operand}
use Rattle.cedar_expression_machine.specs.declared.expression.state.Frame.{Frame}
use Rattle.cedar_expression_machine.specs.declared.expression.state.OperandPlace.{OperandPlace}
use Rattle.cedar_expression_machine.specs.declared.expression.state.OperandPlace.TheVariants as place
use Rattle.cedar_expression_machine.specs.declared.expression.state.State.{State}
use Rattle.cedar_expression_machine.specs.declared.expression.state.StartSymbol.{StartSymbol}
use Rattle.cedar_grammar.specs.declared.reading.extent.Extent.{Extent}
use Rattle.cedar_grammar.specs.grammar.Place.{extent_of}
use Rattle.cedar_syntax.specs.tokens.Tokens.{fits, any_of}
use Rattle.cedar_grammar.specs.machines.Classes.{start_class, class_or_word, mark_class, follow_class}
use Rattle.cedar_grammar.specs.machines.Machine.{Reader, is_some, option_image, IsDone}
use Rattle.cedar_expression_machine.specs.machines.Closing.{fresh, no_signs}
use Rattle.cedar_expression_machine.specs.machines.Named.{NameOrEntity}
use Rattle.cedar_expression_machine.specs.machines.Wanting.{first_act, word_held, number_reading, begin_act}
use Rattle.cedar_expression_machine.specs.machines.Having.{field_reading, follow_act}
use Rattle.cedar_expression_machine.specs.machines.ExpressionShapes.{FrameShape, RelationShape, worded, Shape, shape, relation_shape, stack_shape, op_sign, shape_of, WordOutline}
use Rattle.cedar_expression_machine.specs.machines.ExpressionPlans.{follow_set_of, may_follow, if_follows, behind_plan, class_plan, begin_plan, sign_may_stand, list_may_end, operand_class_plan, operand_plan}
use Rattle.cedar_expression_machine.specs.machines.ExpressionOutline.{operand_had, first_shape, begin_shape, follow_shape}
use Rattle.cedar_grammar.proofs.machines.Laws.{false_true, none_some}
use Rattle.cedar_grammar.proofs.machines.SingleTokens.{same_any}
use Rattle.cedar_expression_machine.proofs.expressions.Held.{Held}
use Rattle.cedar_expression_machine.proofs.expressions.shapes.Acts.{Made, follow_made, sign_made, list_made}

abbrev pub Names : Type 0
Names = Reader WordsState WordsAct NameOrEntity

-- words begin with each identifier, and with nothing else
abbrev pub BeginWithIdents : Names → Type 0
BeginWithIdents names = (k : TokenKind) → is_some (names.plan names.start k) ≡ is_some (any_of k [])

-- an act is done with this token, unless it is a number that doesn't fit, and makes a state of
-- this shape
abbrev pub Acted : {W : Type 0} → (WordsState → W) → Lexeme → Shape W → Option State → Type 0
Acted f t u o = IsDone t o × IfSome o (λ q. shape_of f q ≡ u)

-- with what is no number it is done
acted : {W : Type 0} (f : WordsState → W) (t : Lexeme) (u : Shape W) (o : Option State) → (t.kind ≡ kind.Number → ⊥) → Made f u o → Acted f t u o
acted f t u (Some q) i h = ((λ e. absurd (i e)), h)
acted f t u None i h = absurd h

-- what holds of what is planned holds of the act that it is made into
pub planned_as : {A B : Type 0} (g : A → B) (P : A → Type 0) (Q : B → Type 0) → ((a : A) → P a → Q (g a)) → (o : Option A) → IfSome o P → IfSome (option_image g o) Q
planned_as g P Q h (Some a) p = h a p
planned_as g P Q h None p = tt

-- ---- what a kind is, where an operand is wanted

abbrev is_number : StartClass → Bool
is_number beginning.Number = true
is_number _ = false

other_kind : (c : StartClass) (k : TokenKind) → is_number c ≡ false → start_class k ≡ c → k ≡ kind.Number → ⊥
other_kind c k h e i = false_true (ap (λ c. is_number c) e ∙ h) (ap (λ k. is_number (start_class k)) i)

number_kind : (k : TokenKind) → start_class k ≡ beginning.Number → k ≡ kind.Number
number_kind kind.Number e = refl
number_kind _ e = absurd (false_true refl (ap (λ c. is_number c) e))

abbrev is_word : StartClass → Bool
is_word beginning.Word = true
is_word _ = false

mark_is_no_word : (k : TokenKind) → is_word (mark_class k) ≡ false
mark_is_no_word kind.Number = refl
mark_is_no_word _ = refl

word_kind : (k : TokenKind) (o : Option Ident) → class_or_word k o ≡ beginning.Word → is_some o ≡ true
word_kind k (Some i) e = refl
word_kind k None e = absurd (false_true (mark_is_no_word k) (ap (λ c. is_word c) e))

-- ---- words

held_acted : {W : Type 0} (f : WordsState → W) (st : List Frame) (lv : PendingOperators) (p : OperandPlace) (sg : Signs) (t : Lexeme) (u : W) (o : Option WordsState) → IsDone t o → ((v : WordsState) → o ≡ Some v → f v ≡ u) →
    Acted f t (shape (stack_shape st) (relation_shape lv.relation) (worded p u)) (option_image (λ v. word_held st lv p sg v) o)
held_acted f st lv p sg t u (Some v) d h = (d, ap (λ w. shape (stack_shape st) (relation_shape lv.relation) (worded p w)) (h v refl))
held_acted f st lv p sg t u None d h = (d, tt)

-- they go on as their own reader goes
pub words_acted : {W K : Type 0} {src : List ℕ} {names : Names} {n : WordOutline W K} {f : WordsState → W} {g : NameOrEntity → K} → Held src names n f g → (st : List Frame) (lv : PendingOperators) (p : OperandPlace) (sg : Signs) (s : WordsState) (a : WordsAct) (t : Lexeme) → names.plan s t.kind ≡ Some a →
    Acted f t (shape (stack_shape st) (relation_shape lv.relation) (worded p (n.outline.act (f s) a t.kind))) (option_image (λ v. word_held st lv p sg v) (names.act src s a t))
words_acted {src = src} {names = names} {n = n} {f = f} h st lv p sg s a t e = held_acted f st lv p sg t (n.outline.act (f s) a t.kind) (names.act src s a t) (h.outlined.done s a t e) (λ v i. h.outlined.acts s v a t e i)

-- an identifier is their first token
first_acted : {W K : Type 0} {src : List ℕ} {names : Names} {n : WordOutline W K} {f : WordsState → W} {g : NameOrEntity → K} → Held src names n f g → (st : List Frame) (lv : PendingOperators) (p : OperandPlace) (sg : Signs) (t : Lexeme) (o : Option WordsAct) → names.plan names.start t.kind ≡ o → is_some o ≡ true →
    Acted f t (shape (stack_shape st) (relation_shape lv.relation) (worded p (first_shape n t.kind o))) (option_image (λ v. word_held st lv p sg v) (first_act src names t o))
first_acted h st lv p sg t None e i = absurd (false_true refl i)
first_acted {src = src} {names = names} {n = n} {f = f} h st lv p sg t (Some a) e i =
    subst (λ u. Acted f t (shape (stack_shape st) (relation_shape lv.relation) (worded p (n.outline.act u a t.kind))) (option_image (λ v. word_held st lv p sg v) (names.act src names.start a t))) h.outlined.starts (words_acted h st lv p sg names.start a t e)

begun_acted : {W K : Type 0} {src : List ℕ} {names : Names} {n : WordOutline W K} {f : WordsState → W} {g : NameOrEntity → K} → Held src names n f g → (st : List Frame) (lv : PendingOperators) (p : OperandPlace) (sg : Signs) (t : Lexeme) → is_some (names.plan names.start t.kind) ≡ true →
    Acted f t (begin_shape n (stack_shape st) (relation_shape lv.relation) p begin.Word t.kind) (begin_act src names st lv p sg begin.Word t)
begun_acted {src = src} {names = names} {n = n} {f = f} h st lv p sg t i =
    subst (λ o. Acted f t (shape (stack_shape st) (relation_shape lv.relation) (worded p (first_shape n t.kind o))) (begin_act src names st lv p sg begin.Word t)) (h.outlined.plans names.start t.kind ∙ ap (λ u. n.outline.plan u t.kind) h.outlined.starts)
    (first_acted h st lv p sg t (names.plan names.start t.kind) refl i)

-- ---- where an operand is wanted

number_acted : {W : Type 0} (f : WordsState → W) (src : List ℕ) (st : List Frame) (lv : PendingOperators) (sg : Signs) (t : Lexeme) (b : Bool) → t.kind ≡ kind.Number → fits t.text ≡ b → Acted f t (operand_had (stack_shape st) (relation_shape lv.relation) false) (number_reading src st lv sg b t)
number_acted f src st lv sg t true e i = ((λ k. i), refl)
number_acted f src st lv sg t false e i = ((e, i), tt)

-- what this beginning owes
abbrev pub Begins : {W K : Type 0} → (WordsState → W) → List ℕ → Names → WordOutline W K → List Frame → PendingOperators → OperandPlace → Signs → Lexeme → StartAct → Type 0
Begins f src names n st lv p sg t b = Acted f t (begin_shape n (stack_shape st) (relation_shape lv.relation) p b t.kind) (begin_act src names st lv p sg b t)

-- a beginning that is planned under a condition
may_begin : {W K : Type 0} (f : WordsState → W) (src : List ℕ) (names : Names) (n : WordOutline W K) (st : List Frame) (lv : PendingOperators) (p : OperandPlace) (sg : Signs) (t : Lexeme) (b : Bool) (x : StartAct) → (b ≡ true → Begins f src names n st lv p sg t x) →
    IfSome (cond b (Some x) None) (λ x. Begins f src names n st lv p sg t x)
may_begin f src names n st lv p sg t true x h = h refl
may_begin f src names n st lv p sg t false x h = tt

class_acted : {W K : Type 0} {src : List ℕ} {names : Names} {n : WordOutline W K} {f : WordsState → W} {g : NameOrEntity → K} → Held src names n f g → BeginWithIdents names → (st : List Frame) (lv : PendingOperators) (p : OperandPlace) (sg : Signs) (t : Lexeme) (c : StartClass) → start_class t.kind ≡ c →
    IfSome (operand_class_plan (stack_shape st) p (op_sign sg.op) c) (λ b. Begins f src names n st lv p sg t b)
class_acted h i st lv p sg t beginning.Word e = begun_acted h st lv p sg t (i t.kind ∙ word_kind t.kind (any_of t.kind []) e)
class_acted {src = src} {f = f} h i st lv p sg t beginning.Number e = number_acted f src st lv sg t (fits t.text) (number_kind t.kind e) refl
class_acted h i st lv p sg t beginning.String e = ((λ k. absurd (other_kind beginning.String t.kind refl e k)), refl)
class_acted h i st lv p sg t (beginning.Slot s) e = ((λ k. absurd (other_kind (beginning.Slot s) t.kind refl e k)), refl)
class_acted {src = src} {names = names} {n = n} {f = f} h i st lv p sg t (beginning.Sign s) e =
    may_begin f src names n st lv p sg t (sign_may_stand p (op_sign sg.op) s) (begin.Sign s) (λ m. acted f t _ (begin_act src names st lv p sg (begin.Sign s) t) (λ k. other_kind (beginning.Sign s) t.kind refl e k) (sign_made f st lv p sg.extent sg.op s (extent_of t) m))
class_acted h i st lv p sg t beginning.Paren e = ((λ k. absurd (other_kind beginning.Paren t.kind refl e k)), refl)
class_acted h i st lv p sg t beginning.Bracket e = ((λ k. absurd (other_kind beginning.Bracket t.kind refl e k)), refl)
class_acted h i st lv p sg t beginning.Brace e = ((λ k. absurd (other_kind beginning.Brace t.kind refl e k)), refl)
class_acted {src = src} {names = names} {n = n} {f = f} h i st lv p sg t (beginning.Ends c) e =
    may_begin f src names n st lv p sg t (list_may_end (stack_shape st) p c) (begin.Ends c) (λ m. acted f t _ (begin_act src names st lv p sg (begin.Ends c) t) (λ k. other_kind (beginning.Ends c) t.kind refl e k) (list_made f src st (relation_shape lv.relation) p c (extent_of t) m))
class_acted h i st lv p sg t beginning.Other e = tt

-- in any place, behind any signs
pub wanted_acted : {W K : Type 0} {src : List ℕ} {names : Names} {n : WordOutline W K} {f : WordsState → W} {g : NameOrEntity → K} → Held src names n f g → BeginWithIdents names → (st : List Frame) (lv : PendingOperators) (p : OperandPlace) (sg : Signs) (t : Lexeme) →
    IfSome (operand_plan (stack_shape st) p (op_sign sg.op) t.kind) (λ b. Begins f src names n st lv p sg t b)
wanted_acted h i st lv p sg t = class_acted h i st lv p sg t (start_class t.kind) refl

-- where an expression begins, no list ends and each sign may stand
as_operand : (st : List FrameShape) (c : StartClass) → operand_class_plan st place.Expr None c ≡ class_plan c
as_operand st (beginning.Sign s) = refl
as_operand st (beginning.Ends c) = refl
as_operand st _ = refl

-- first in an expression
pub first_wanted_acted : {W K : Type 0} {src : List ℕ} {names : Names} {n : WordOutline W K} {f : WordsState → W} {g : NameOrEntity → K} → Held src names n f g → BeginWithIdents names → (st : List Frame) (t : Lexeme) →
    IfSome (begin_plan t.kind) (λ b. Begins f src names n st (fresh []) place.Expr no_signs t b)
first_wanted_acted {src = src} {names = names} {n = n} {f = f} h i st t =
    subst (λ o. IfSome o (λ b. Begins f src names n st (fresh []) place.Expr no_signs t b)) (as_operand (stack_shape st) (start_class t.kind)) (wanted_acted h i st (fresh []) place.Expr no_signs t)

-- ---- behind an operand

-- an operator is no number
no_number : (st : List FrameShape) (l : RelationShape) (w : StartSymbol) (b : Bool) (k : TokenKind) → may_follow st l (follow_set_of w st b) (follow_class k) ≡ true → k ≡ kind.Number → ⊥
no_number st l w b k h e = false_true (ap (λ k. may_follow st l (follow_set_of w st b) (follow_class k)) e) h

-- `b` is what the plan takes the operand for, the word `if` right of `has` or not
pub follow_acted : {W : Type 0} (f : WordsState → W) (src : List ℕ) (w : StartSymbol) (st : List Frame) (lv : PendingOperators) (m : Operand) (b : Bool) (t : Lexeme) →
    IfSome (behind_plan w (stack_shape st) (relation_shape lv.relation) b t.kind) (λ o. Acted f t (follow_shape (stack_shape st) (relation_shape lv.relation) m.is_if o) (follow_act src st lv m o (extent_of t)))
follow_acted {W = W} f src w st lv m b t = go (may_follow (stack_shape st) (relation_shape lv.relation) (follow_set_of w (stack_shape st) b) (follow_class t.kind)) refl
  where
    go : (c : Bool) → may_follow (stack_shape st) (relation_shape lv.relation) (follow_set_of w (stack_shape st) b) (follow_class t.kind) ≡ c →
        IfSome (if_follows c (follow_class t.kind)) (λ o. Acted f t (follow_shape (stack_shape st) (relation_shape lv.relation) m.is_if o) (follow_act src st lv m o (extent_of t)))
    go true h = acted f t _ (follow_act src st lv m (follow_class t.kind) (extent_of t)) (no_number (stack_shape st) (relation_shape lv.relation) w b t.kind h) (follow_made f src st lv m (follow_set_of w (stack_shape st) b) (follow_class t.kind) (extent_of t) h)
    go false h = tt

-- ---- behind `.`

-- each identifier may stand there
field_by : {W : Type 0} (f : WordsState → W) (src : List ℕ) (st : List Frame) (lv : PendingOperators) (m : Operand) (d : Extent) (t : Lexeme) (o q : Option Ident) → any_of t.kind [] ≡ o → is_some o ≡ is_some q →
    IfSome o (λ i. Acted f t (operand_had (stack_shape st) (relation_shape lv.relation) m.is_if) (field_reading src st lv m d q (extent_of t)))
field_by f src st lv m d t None q e i = tt
field_by f src st lv m d t (Some x) (Some y) e i = ((λ k. absurd (none_some (ap (λ k. any_of k []) k) e)), refl)
field_by f src st lv m d t (Some x) None e i = absurd (false_true refl (sym i))

pub field_acted : {W : Type 0} (f : WordsState → W) (src : List ℕ) (st : List Frame) (lv : PendingOperators) (m : Operand) (d : Extent) (t : Lexeme) →
    IfSome (any_of t.kind []) (λ i. Acted f t (operand_had (stack_shape st) (relation_shape lv.relation) m.is_if) (field_reading src st lv m d (any_of t.kind t.text) (extent_of t)))
field_acted f src st lv m d t = field_by f src st lv m d t (any_of t.kind []) (any_of t.kind t.text) refl (same_any t.kind t.text)

-- WordsState, and one token more whatever is begun.
use Rattle.std.specs.Prelude.{cond}
use Rattle.std.proofs.Common.{◌≡◌, ℕ, List, [], ◌∷◌, ◌++◌, Option, Some, None, Bool, true, false, refl, sym, ◌∙◌, ap, subst, append_assoc}
use Rattle.cedar_lexer.specs.Token.{Lexeme}
use Rattle.cedar_lexer.specs.declared.token.TokenKind.{TokenKind}
use Rattle.cedar_lexer.specs.declared.token.TokenKind.TheVariants as kind
use Rattle.cedar_syntax.specs.declared.cst.Primary.{Primary}
use Rattle.cedar_syntax.specs.declared.cst.Ident.{Ident}
use Rattle.cedar_syntax.specs.declared.cst.Ident.TheVariants as ident
use Rattle.cedar_grammar.specs.declared.reading.class.FollowClass.{FollowClass}
use Rattle.cedar_expression_machine.specs.declared.expression.state.Act.{Act}
use Rattle.cedar_expression_machine.specs.declared.expression.state.Act.TheVariants as act
use Rattle.cedar_expression_machine.specs.declared.expression.state.StartAct.{StartAct}
use Rattle.cedar_expression_machine.specs.declared.expression.state.OperandPlace.TheVariants as place
use Rattle.cedar_expression_machine.specs.declared.expression.state.Frame.TheVariants as frame
use Rattle.cedar_grammar.specs.declared.reading.extent.Extent.{Extent}
use Rattle.cedar_expression_machine.specs.machines.Named.{NameOrEntity, ReadsNamed, a_path, a_ref}
use Rattle.cedar_expression_machine.specs.machines.Named as named_as
use Rattle.cedar_expression_machine.specs.declared.words.state.WordsState.{WordsState}
use Rattle.cedar_expression_machine.specs.declared.words.state.WordsAct.{WordsAct}
use Rattle.cedar_expression_machine.specs.declared.expression.state.Branch.{Branch}
use Rattle.cedar_expression_machine.specs.declared.expression.state.PendingOperators.{PendingOperators}
use Rattle.cedar_expression_machine.specs.declared.expression.state.Signs.{Signs}
use Rattle.cedar_expression_machine.specs.declared.expression.state.Operand.{Operand}
use Rattle.cedar_expression_machine.specs.declared.expression.state.Frame.{Frame}
use Rattle.cedar_expression_machine.specs.declared.expression.state.OperandPlace.{OperandPlace}
use Rattle.cedar_expression_machine.specs.declared.expression.state.State.{State}
use Rattle.cedar_expression_machine.specs.declared.expression.state.StartSymbol.{StartSymbol}
use Rattle.cedar_expression_machine.specs.declared.expression.state.SingleWord.TheVariants as single
use Rattle.cedar_expression_machine.specs.declared.expression.state.FollowSet.TheVariants as follow_set
use Rattle.cedar_grammar.specs.grammar.Place.{extent_of, placed}
use Rattle.cedar_syntax.specs.tokens.Tokens.{Spot, one, any_of}
use Rattle.cedar_syntax.specs.trees.Trees.{Cell, name_of}
use Rattle.cedar_grammar.specs.grammar.LooseExpressions.{no_access, field, ReadsPrimary, literally, referred, named}
use Rattle.cedar_grammar.specs.grammar.LooseWords.{common as common_name, truth, falsity, any, one_word, more_words, qualified}
use Rattle.cedar_expression_machine.specs.machines.Closing.{fresh, no_signs, operand_of, if_operand}
use Rattle.cedar_grammar.specs.machines.Machine.{Machine, machine_of, next, Comes, step_from, answer_state, option_image}
use Rattle.cedar_grammar.specs.machines.Classes.{start_class, follow_class}
use Rattle.cedar_expression_machine.specs.machines.ExpressionStates.{state, has_operand}
use Rattle.cedar_expression_machine.specs.declared.expression.state.OperandMode.TheVariants as mode
use Rattle.cedar_expression_machine.specs.machines.ExpressionShapes.{stack_shape, relation_shape, op_sign, WordOutline}
use Rattle.cedar_expression_machine.specs.machines.ExpressionPlans.{edge, follow_set_of, begin_plan, operand_plan, may_follow, if_follows, behind_plan, guard_plan, reduce_plan, colon_key_plan, key_plan, if_plan, ended_words_plan, or_else, word_plan}
use Rattle.cedar_expression_machine.specs.machines.Wanting.{first_act, first_words, word_held, begin_act}
use Rattle.cedar_expression_machine.specs.machines.Having.{field_reading, follow_act}
use Rattle.cedar_expression_machine.specs.machines.Expressions.{single_word, single_word_is_if, named_is_if, single_word_operand, named_operand, named_extent, with_words, guard_beginning, if_key_reading, want_act, word_act, dot_act, have_act}
use Rattle.cedar_expression_machine.proofs.expressions.Held.{Held}
use Rattle.cedar_expression_machine.proofs.expressions.sound.Begun.{at, closed, BegunBranches, no_branch, begun_if, Longer, if_longer, Holds, holds, lone_if_key, BegunStack, bottom, in_paren, in_set, in_call, in_index, in_key, in_value, in_guard, in_then, Wants, at_expr, at_item, at_key, at_has, at_operand, at_primary, Begun, is_wanting, is_worded, is_dotted, is_had}
use Rattle.cedar_expression_machine.proofs.expressions.sound.Operators.{After, moved, after_moved, leads_to, wants_leads, opens_in}
use Rattle.cedar_expression_machine.proofs.expressions.sound.Tokens.{wanting, had_begun, wanted_begun}
use Rattle.cedar_expression_machine.proofs.expressions.Stepping.{Names, planned, had, edge_shape, begin_as_operand, step_of}
use Rattle.cedar_expression_machine.proofs.expressions.sound.Brackets.{access_ends}
use Rattle.cedar_grammar.proofs.machines.Laws.{steps-append, none_some}
use Rattle.cedar_grammar.proofs.machines.Readers.{takes}

-- one token more
pub comes_on : {K S T : Type 0} (m : Machine K S T) (ts : List K) (s r : S) (t : K) → Comes m ts s → m.step s t ≡ next r → Comes m (ts ++ t ∷ []) r
comes_on m ts s r t e f = steps-append m (Some m.start) ts (t ∷ []) ∙ ap (λ q. step_from m q t) e ∙ ap (λ a. answer_state a) f

pub false_true : false ≡ true → ⊥
false_true e = cc

-- words that are one token alone

abbrev is_true : Option Ident → Bool
is_true (Some ident.True) = true
is_true _ = false

abbrev is_false : Option Ident → Bool
is_false (Some ident.False) = true
is_false _ = false

abbrev is_if : Option Ident → Bool
is_if (Some ident.If) = true
is_if _ = false

pub true_kind : (k : TokenKind) (text : List ℕ) → any_of k text ≡ Some ident.True → k ≡ kind.True
true_kind kind.True text e = refl
true_kind _ text e = absurd (false_true (ap is_true e))

pub false_kind : (k : TokenKind) (text : List ℕ) → any_of k text ≡ Some ident.False → k ≡ kind.False
false_kind kind.False text e = refl
false_kind _ text e = absurd (false_true (ap is_false e))

pub if_kind : (k : TokenKind) (text : List ℕ) → any_of k text ≡ Some ident.If → k ≡ kind.If
if_kind kind.If text e = refl
if_kind _ text e = absurd (false_true (ap is_if e))

pub path_name : (xs : List (Cell Ident)) (x y : Cell Ident) → single_word (xs ++ x ∷ []) y ≡ single.Name
path_name [] x y = refl
path_name (z ∷ xs) x y = refl

-- the first token of words

first_by : (src : List ℕ) (names : Names) (t : Lexeme) (s : WordsState) (o : Option WordsAct) → names.plan names.start t.kind ≡ o → first_act src names t o ≡ Some s → (machine_of src names).step names.start t ≡ next s
first_by src names t s None e f = absurd (none_some refl f)
first_by src names t s (Some a) e f = takes src names names.start s a t e f

pub first_comes : (src : List ℕ) (names : Names) (t : Lexeme) (s : WordsState) → first_words src names t ≡ Some s → Comes (machine_of src names) (t ∷ []) s
first_comes src names t s e = comes_on (machine_of src names) [] names.start s t refl (first_by src names t s (names.plan names.start t.kind) refl e)

wanted_goes : {src : List ℕ} {w : StartSymbol} {ts us : List Lexeme} {st : List Frame} {lv : PendingOperators} {pl : OperandPlace} {sg : Signs} (names : Names) (t : Lexeme) → BegunStack src w ts st → Wants src w us st lv pl sg →
    After src names w (ts ++ (us ++ t ∷ [])) (wanting src names st lv pl sg t)
wanted_goes {src = src} names t a b = wanted_begun a b names t.kind record { start = t.start; end = t.end; text = t.text } (λ s e. first_comes src names t s e)

-- an operand behind which a token stands

holds_goes : {src : List ℕ} {w : StartSymbol} {ts us : List Lexeme} {st : List Frame} {lv : PendingOperators} {m : Operand} (names : Names) (t : Lexeme) → BegunStack src w ts st → Holds src (edge w st) us lv m →
    After src names w (ts ++ (us ++ t ∷ [])) (had src st lv m (follow_set_of w (stack_shape st) m.is_if) (follow_class t.kind) (extent_of t))
holds_goes {src = src} {w = w} {us = us} {st = st} {lv = lv} {m = m} names t a h =
    had_begun (edge_shape w st) a (subst (λ r. Holds src r us lv m) (edge_shape w st) h) t.kind record { start = t.start; end = t.end; text = t.text } names

-- words that have ended with this tree

-- they are an operand
reduces : (src : List ℕ) (names : Names) (w : StartSymbol) (ts : List Lexeme) (st : List Frame) (lv : PendingOperators) (pl : OperandPlace) (sg : Signs) (s : WordsState) (x : NameOrEntity) (t : Lexeme) → names.finish src s ≡ Some x → (b : Bool) (o : FollowClass) →
    After src names w ts (cond b (follow_act src st lv (named_operand src sg x) o (extent_of t)) None) → After src names w ts (planned (reduce_plan (if_follows b o)) (λ a. word_act src names st lv pl sg s a t))
reduces src names w ts st lv pl sg s x t e true o h = subst (λ q. After src names w ts (with_words q (λ x. follow_act src st lv (named_operand src sg x) o (extent_of t)))) (sym e) h
reduces src names w ts st lv pl sg s x t e false o h = tt

-- they are `if`, and the guard begins
guards_by : (src : List ℕ) (names : Names) (w : StartSymbol) (ts : List Lexeme) (st : List Frame) (lv : PendingOperators) (pl : OperandPlace) (sg : Signs) (s : WordsState) (x : NameOrEntity) (t : Lexeme) → names.finish src s ≡ Some x → (o : Option StartAct) →
    After src names w ts (planned o (λ b. guard_beginning src names st lv (named_extent x) b t)) → After src names w ts (planned (option_image (λ b. act.Guard b) o) (λ a. word_act src names st lv pl sg s a t))
guards_by src names w ts st lv pl sg s x t e (Some b) h = subst (λ q. After src names w ts (with_words q (λ x. guard_beginning src names st lv (named_extent x) b t))) (sym e) h
guards_by src names w ts st lv pl sg s x t e None h = tt

abbrev guard_frame : List Branch → Option Extent → Frame
guard_frame bs l = frame.Guard record { branches = bs; opened = l }

guards : (src : List ℕ) (names : Names) (w : StartSymbol) (ts : List Lexeme) (st : List Frame) (lv : PendingOperators) (pl : OperandPlace) (sg : Signs) (s : WordsState) (x : NameOrEntity) (t : Lexeme) → names.finish src s ≡ Some x →
    After src names w ts (wanting src names (guard_frame lv.branches (named_extent x) ∷ st) (fresh []) place.Expr no_signs t) → After src names w ts (planned (guard_plan t.kind) (λ a. word_act src names st lv pl sg s a t))
guards src names w ts st lv pl sg s x t e h =
    guards_by src names w _ st lv pl sg s x t e (begin_plan t.kind)
    (subst (λ o. After src names w ts (planned o (λ b. guard_beginning src names st lv (named_extent x) b t))) (begin_as_operand (stack_shape (guard_frame lv.branches (named_extent x) ∷ st)) (start_class t.kind)) h)

-- the word `if` alone

abbrev if_path : List ℕ → Spot → NameOrEntity
if_path src p = named_as.path (closed (one kind.If p) (name_of [] (placed src (one kind.If p) ident.If)))

-- a conditional begins, and this is its guard's first token
guard_goes : {src : List ℕ} {w : StartSymbol} {ts us : List Lexeme} {st : List Frame} {bs : List Branch} (names : Names) (p : Spot) (t : Lexeme) → edge w st ≡ follow_set.Whole → BegunStack src w ts st → BegunBranches src us bs →
    After src names w (ts ++ (us ++ (one kind.If p ++ t ∷ []))) (wanting src names (guard_frame bs (Some (at p)) ∷ st) (fresh []) place.Expr no_signs t)
guard_goes {src = src} {w = w} {st = st} {bs = bs} names p t e a b =
    after_moved src names w (wanting src names (guard_frame bs (Some (at p)) ∷ st) (fresh []) place.Expr no_signs t) (simp append_assoc) (wanted_goes names t (in_guard p e a b) (at_expr refl no_branch))

-- `if` as a key
key_goes : {src : List ℕ} {w : StartSymbol} {ts : List Lexeme} {st : List Frame} (names : Names) (lv : PendingOperators) (pl : OperandPlace) (sg : Signs) (s : WordsState) (p q : Spot) → names.finish src s ≡ Some (if_path src p) → BegunStack src w ts st →
    After src names w (ts ++ (one kind.If p ++ one kind.Colon q)) (planned (colon_key_plan (stack_shape st)) (λ a. word_act src names st lv pl sg s a record { kind = kind.Colon; start = q.start; end = q.end; text = q.text }))
key_goes {src = src} {w = w} {ts = ts} {st = st} names lv pl sg s p q e (in_key l a b c) =
    subst (λ o. After src names w (ts ++ (one kind.If p ++ one kind.Colon q)) (with_words o (λ x. if_key_reading src st (named_extent x) (at q)))) (sym e) (moved (simp append_assoc) (opens_in (in_value l a b c (lone_if_key p q))))
key_goes names lv pl sg s p q e bottom = tt
key_goes names lv pl sg s p q e (in_paren l a b) = tt
key_goes names lv pl sg s p q e (in_set l a b c) = tt
key_goes names lv pl sg s p q e (in_call l a b c) = tt
key_goes names lv pl sg s p q e (in_index l a b) = tt
key_goes names lv pl sg s p q e (in_value l a b c d) = tt
key_goes names lv pl sg s p q e (in_guard l f a b) = tt
key_goes names lv pl sg s p q e (in_then l m f a b c) = tt

key_if_goes : {src : List ℕ} {w : StartSymbol} {ts : List Lexeme} {f : Frame} {st : List Frame} (names : Names) (sg : Signs) (s : WordsState) (p : Spot) (k : TokenKind) (q : Spot) → names.finish src s ≡ Some (if_path src p) → BegunStack src w ts (f ∷ st) →
    After src names w (ts ++ (one kind.If p ++ one k q)) (planned (key_plan (stack_shape (f ∷ st)) k) (λ a. word_act src names (f ∷ st) (fresh []) place.Key sg s a record { kind = k; start = q.start; end = q.end; text = q.text }))
key_if_goes names sg s p kind.Colon q e a = key_goes names (fresh []) place.Key sg s p q e a
key_if_goes {src = src} {w = w} {ts = ts} {f = f} {st = st} names sg s p k q e a =
    guards src names w (ts ++ (one kind.If p ++ one k q)) (f ∷ st) (fresh []) place.Key sg s (if_path src p) record { kind = k; start = q.start; end = q.end; text = q.text } e (guard_goes names p record { kind = k; start = q.start; end = q.end; text = q.text } refl a no_branch)

if_goes : {src : List ℕ} {w : StartSymbol} {ts us : List Lexeme} {st : List Frame} {lv : PendingOperators} {pl : OperandPlace} {sg : Signs} (names : Names) (s : WordsState) (p : Spot) (t : Lexeme) → names.finish src s ≡ Some (if_path src p) → BegunStack src w ts st → Wants src w us st lv pl sg →
    After src names w (ts ++ (us ++ (one kind.If p ++ t ∷ []))) (planned (if_plan w (stack_shape st) (relation_shape lv.relation) pl t.kind) (λ a. word_act src names st lv pl sg s a t))
if_goes {src = src} {w = w} {st = st} {lv = lv} names s p t e a (at_expr f b) = guards src names w _ st lv place.Expr no_signs s (if_path src p) t e (guard_goes names p t f a b)
if_goes {src = src} {w = w} {st = st} {lv = lv} names s p t e a at_item = guards src names w _ st lv place.Item no_signs s (if_path src p) t e (guard_goes names p t refl a no_branch)
if_goes names s p t e a at_key = key_if_goes names no_signs s p t.kind record { start = t.start; end = t.end; text = t.text } e a
if_goes {src = src} {w = w} {us = us} {st = st} {lv = lv} names s p t e a (at_has f b) =
    reduces src names w _ st lv place.Has no_signs s (if_path src p) t e (may_follow (stack_shape st) (relation_shape lv.relation) follow_set.If (follow_class t.kind)) (follow_class t.kind)
    (after_moved src names w (had src st lv (if_operand src (Some (at p))) follow_set.If (follow_class t.kind) (extent_of t)) (simp append_assoc)
    (holds_goes names t a (subst (λ r. Holds src r (us ++ one kind.If p) lv (if_operand src (Some (at p)))) (sym f) (holds (if_longer b (begun_if p no_access))))))
if_goes names s p t e a (at_operand o) = tt
if_goes names s p t e a (at_primary f) = tt

-- words that ended before this token

abbrev EndedGoes : List ℕ → Names → StartSymbol → List Lexeme → List Lexeme → List Lexeme → List Frame → PendingOperators → OperandPlace → Signs → WordsState → NameOrEntity → Lexeme → Type 0
EndedGoes src names w ts us vs st lv pl sg s x t =
    After src names w (ts ++ (us ++ (vs ++ t ∷ []))) (planned (ended_words_plan w (stack_shape st) (relation_shape lv.relation) pl (Some (named_is_if x)) t.kind) (λ a. word_act src names st lv pl sg s a t))

operand_goes : {src : List ℕ} {w : StartSymbol} {ts us vs : List Lexeme} {st : List Frame} {lv : PendingOperators} {pl : OperandPlace} {sg : Signs} {x : Primary} (names : Names) (s : WordsState) (y : NameOrEntity) (t : Lexeme) → names.finish src s ≡ Some y → named_operand src sg y ≡ operand_of src sg (closed vs x) →
    BegunStack src w ts st → Wants src w us st lv pl sg → ReadsPrimary src vs x →
    After src names w (ts ++ (us ++ (vs ++ t ∷ []))) (planned (reduce_plan (behind_plan w (stack_shape st) (relation_shape lv.relation) false t.kind)) (λ a. word_act src names st lv pl sg s a t))
operand_goes {src = src} {w = w} {ts = ts} {us = us} {vs = vs} {st = st} {lv = lv} {pl = pl} {sg = sg} {x = x} names s y t e i a b r =
    reduces src names w _ st lv pl sg s y t e (may_follow (stack_shape st) (relation_shape lv.relation) (edge w (stack_shape st)) (follow_class t.kind)) (follow_class t.kind)
    (subst (λ m. After src names w (ts ++ (us ++ (vs ++ t ∷ []))) (had src st lv m (edge w (stack_shape st)) (follow_class t.kind) (extent_of t))) (sym i)
    (after_moved src names w (had src st lv (operand_of src sg (closed vs x)) (edge w (stack_shape st)) (follow_class t.kind) (extent_of t)) (simp append_assoc)
    (holds_goes names t a (leads_to (wants_leads b) r))))

abbrev pub word_path : List ℕ → TokenKind → Spot → Ident → NameOrEntity
word_path src k p i = named_as.path (closed (one k p) (name_of [] (placed src (one k p) i)))

abbrev AloneGoes : List ℕ → Names → StartSymbol → List Lexeme → List Lexeme → List Frame → PendingOperators → OperandPlace → Signs → WordsState → TokenKind → Spot → Ident → Lexeme → Type 0
AloneGoes src names w ts us st lv pl sg s k p i t = names.finish src s ≡ Some (word_path src k p i) → EndedGoes src names w ts us (one k p) st lv pl sg s (word_path src k p i) t

alone_goes : {src : List ℕ} {w : StartSymbol} {ts us : List Lexeme} {st : List Frame} {lv : PendingOperators} {pl : OperandPlace} {sg : Signs} (names : Names) (s : WordsState) (t : Lexeme) (k : TokenKind) (p : Spot) (i : Ident) → any_of k p.text ≡ Some i → BegunStack src w ts st → Wants src w us st lv pl sg →
    AloneGoes src names w ts us st lv pl sg s k p i t
alone_goes {src = src} {w = w} {ts = ts} {us = us} {st = st} {lv = lv} {pl = pl} {sg = sg} names s t k p ident.True e a b =
    subst (λ j. AloneGoes src names w ts us st lv pl sg s j p ident.True t) (sym (true_kind k p.text e)) (λ f. operand_goes names s (word_path src kind.True p ident.True) t f refl a b (literally (truth p)))
alone_goes {src = src} {w = w} {ts = ts} {us = us} {st = st} {lv = lv} {pl = pl} {sg = sg} names s t k p ident.False e a b =
    subst (λ j. AloneGoes src names w ts us st lv pl sg s j p ident.False t) (sym (false_kind k p.text e)) (λ f. operand_goes names s (word_path src kind.False p ident.False) t f refl a b (literally (falsity p)))
alone_goes {src = src} {w = w} {ts = ts} {us = us} {st = st} {lv = lv} {pl = pl} {sg = sg} names s t k p ident.If e a b =
    subst (λ j. AloneGoes src names w ts us st lv pl sg s j p ident.If t) (sym (if_kind k p.text e)) (λ f. if_goes names s p t f a b)
alone_goes {src = src} names s t k p i e a b = λ f. operand_goes names s (word_path src k p i) t f refl a b (named (common_name (any p e) refl))

named_goes : {src : List ℕ} {w : StartSymbol} {ts us vs : List Lexeme} {st : List Frame} {lv : PendingOperators} {pl : OperandPlace} {sg : Signs} {x : NameOrEntity} (names : Names) (s : WordsState) (t : Lexeme) → names.finish src s ≡ Some x → BegunStack src w ts st → Wants src w us st lv pl sg → ReadsNamed src vs x →
    EndedGoes src names w ts us vs st lv pl sg s x t
named_goes {x = x} names s t e a b (a_ref r) = operand_goes names s x t e refl a b (referred r)
named_goes names s t e a b (a_path (one_word (any {k = k} {i = i} p f))) = alone_goes names s t k p i f a b e
named_goes {src = src} {w = w} {ts = ts} {us = us} {vs = vs} {st = st} {lv = lv} {pl = pl} {sg = sg} {x = x} names s t e a b (a_path (more_words {us = ws} {xs = xs} {x = y} {i = i} p r h)) =
    subst (λ q. After src names w (ts ++ (us ++ (vs ++ t ∷ []))) (planned (ended_words_plan w (stack_shape st) (relation_shape lv.relation) pl (Some (single_word_is_if q)) t.kind) (λ a. word_act src names st lv pl sg s a t))) (sym (path_name xs y (placed src ws i)))
    (operand_goes names s x t e (ap (λ q. single_word_operand src sg (closed vs (name_of (xs ++ y ∷ []) (placed src ws i))) q) (path_name xs y (placed src ws i))) a b (named (qualified p r h)))

-- words that go on, or that have ended

words_go : {src : List ℕ} {w : StartSymbol} {ts us : List Lexeme} {st : List Frame} {lv : PendingOperators} {pl : OperandPlace} {sg : Signs} (names : Names) (vs : List Lexeme) (s : WordsState) (t : Lexeme) (a : WordsAct) (o : Option WordsState) → names.plan s t.kind ≡ Some a → names.act src s a t ≡ o →
    BegunStack src w ts st → Wants src w us st lv pl sg → Comes (machine_of src names) vs s → After src names w (ts ++ (us ++ (vs ++ t ∷ []))) (option_image (λ v. word_held st lv pl sg v) o)
words_go {src = src} names vs s t a (Some v) e f x y c = is_worded (vs ++ t ∷ []) x y (comes_on (machine_of src names) vs s v t c (takes src names s v a t e f))
words_go names vs s t a None e f x y c = tt

word_goes : {W K : Type 0} {src : List ℕ} {w : StartSymbol} {ts us : List Lexeme} {st : List Frame} {lv : PendingOperators} {pl : OperandPlace} {sg : Signs} {names : Names} {n : WordOutline W K} {f : WordsState → W} {g : NameOrEntity → K} → Held src names n f g → (vs : List Lexeme) (s : WordsState) (t : Lexeme) →
    BegunStack src w ts st → Wants src w us st lv pl sg → Comes (machine_of src names) vs s →
    After src names w (ts ++ (us ++ (vs ++ t ∷ []))) (planned (word_plan w n (stack_shape st) (relation_shape lv.relation) pl (f s) t.kind) (λ a. word_act src names st lv pl sg s a t))
word_goes {K = K} {src = src} {w = w} {ts = ts} {us = us} {st = st} {lv = lv} {pl = pl} {sg = sg} {names = names} {n = n} {f = f} {g = g} h vs s t a b c =
    subst (λ q. After src names w (ts ++ (us ++ (vs ++ t ∷ []))) (planned (or_else (option_image (λ a. act.Words a) q) (ended_plan (n.outline.finish (f s)))) does)) (h.outlined.plans s t.kind) (goes (names.plan s t.kind) refl)
  where
    does : Act → Option State
    does a = word_act src names st lv pl sg s a t

    ended_plan : Option K → Option Act
    ended_plan o = ended_words_plan w (stack_shape st) (relation_shape lv.relation) pl (option_image n.is_if o) t.kind

    ended : (o : Option NameOrEntity) → names.finish src s ≡ o → After src names w (ts ++ (us ++ (vs ++ t ∷ []))) (planned (ended_plan (option_image g o)) does)
    ended None e = tt
    ended (Some x) e =
        subst (λ q. After src names w (ts ++ (us ++ (vs ++ t ∷ []))) (planned (ended_words_plan w (stack_shape st) (relation_shape lv.relation) pl (Some q) t.kind) does)) (sym (h.ifs x))
        (named_goes names s t e a b (h.parser.sound vs s x c e))

    goes : (q : Option WordsAct) → names.plan s t.kind ≡ q → After src names w (ts ++ (us ++ (vs ++ t ∷ []))) (planned (or_else (option_image (λ a. act.Words a) q) (ended_plan (n.outline.finish (f s)))) does)
    goes (Some x) e = words_go names vs s t x (names.act src s x t) e refl a b c
    goes None e = subst (λ o. After src names w (ts ++ (us ++ (vs ++ t ∷ []))) (planned (ended_plan o) does)) (sym (h.outlined.finishes s)) (ended (names.finish src s) refl)

-- behind `.`

field_goes : {src : List ℕ} {w : StartSymbol} {ts us : List Lexeme} {st : List Frame} {lv : PendingOperators} {m : Operand} (names : Names) (d : Spot) (k : TokenKind) (p : Spot) (o : Option Ident) → any_of k p.text ≡ o → BegunStack src w ts st → Longer src (edge w st) us lv m →
    After src names w (ts ++ (us ++ (one kind.Dot d ++ one k p))) (field_reading src st lv m (at d) o (at p))
field_goes names d k p None e a b = tt
field_goes names d k p (Some i) e a b = access_ends {vs = one kind.Dot d ++ one k p} _ refl a b (field d (any p e))

dot_goes : {src : List ℕ} {w : StartSymbol} {ts us : List Lexeme} {st : List Frame} {lv : PendingOperators} {m : Operand} (names : Names) (d : Spot) (t : Lexeme) (o : Option Ident) → BegunStack src w ts st → Longer src (edge w st) us lv m →
    After src names w (ts ++ (us ++ (one kind.Dot d ++ t ∷ []))) (planned (option_image (λ i. act.Field) o) (λ a. dot_act src st lv m (at d) a t))
dot_goes names d t None a b = tt
dot_goes names d t (Some i) a b = field_goes names d t.kind record { start = t.start; end = t.end; text = t.text } (any_of t.kind t.text) refl a b

-- an operand

follows : (src : List ℕ) (names : Names) (w : StartSymbol) (ts : List Lexeme) (st : List Frame) (lv : PendingOperators) (m : Operand) (t : Lexeme) (b : Bool) (o : FollowClass) → After src names w ts (cond b (follow_act src st lv m o (extent_of t)) None) →
    After src names w ts (planned (option_image (λ o. act.Follow o) (if_follows b o)) (λ a. have_act src st lv m a t))
follows src names w ts st lv m t true o h = h
follows src names w ts st lv m t false o h = tt

begins : (src : List ℕ) (names : Names) (w : StartSymbol) (ts : List Lexeme) (st : List Frame) (lv : PendingOperators) (pl : OperandPlace) (sg : Signs) (t : Lexeme) (o : Option StartAct) → After src names w ts (planned o (λ b. begin_act src names st lv pl sg b t)) →
    After src names w ts (planned (option_image (λ b. act.Begin b) o) (λ a. want_act src names st lv pl sg a t))
begins src names w ts st lv pl sg t (Some b) h = h
begins src names w ts st lv pl sg t None h = tt

-- one token more

pub step_begun : {W K : Type 0} {src : List ℕ} {w : StartSymbol} {ts : List Lexeme} {s : State} {names : Names} {n : WordOutline W K} {f : WordsState → W} {g : NameOrEntity → K} → Held src names n f g → Begun src names w ts s → (t : Lexeme) →
    After src names w (ts ++ t ∷ []) (step_of w src names n f s t)
step_begun {src = src} {w = w} {names = names} {n = n} {f = f} h (is_wanting {st = st} {lv = lv} {p = pl} {sg = sg} a b) t =
    after_moved src names w (step_of w src names n f (state st lv (mode.Want pl sg)) t) (simp append_assoc) (begins src names w _ st lv pl sg t (operand_plan (stack_shape st) pl (op_sign sg.op) t.kind) (wanted_goes names t a b))
step_begun {src = src} {w = w} {names = names} {n = n} {f = f} h (is_worded vs {st = st} {lv = lv} {p = pl} {sg = sg} {s = s} a b c) t =
    after_moved src names w (step_of w src names n f (state st lv (mode.Word pl sg s)) t) (simp append_assoc) (word_goes h vs s t a b c)
step_begun {src = src} {w = w} {names = names} {n = n} {f = f} h (is_dotted {st = st} {lv = lv} {m = m} d a b) t =
    after_moved src names w (step_of w src names n f (state st lv (mode.Have m (Some (at d)))) t) (simp append_assoc) (dot_goes names d t (any_of t.kind []) a b)
step_begun {src = src} {w = w} {names = names} {n = n} {f = f} h (is_had {st = st} {lv = lv} {m = m} a b) t =
    after_moved src names w (step_of w src names n f (has_operand st lv m) t) (simp append_assoc)
    (follows src names w _ st lv m t (may_follow (stack_shape st) (relation_shape lv.relation) (follow_set_of w (stack_shape st) m.is_if) (follow_class t.kind)) (follow_class t.kind) (holds_goes names t a b))

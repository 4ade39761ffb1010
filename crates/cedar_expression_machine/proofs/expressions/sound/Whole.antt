-- What a whole run has read is a tree of the grammar.
use Rattle.std.specs.Prelude.{cond}
use Rattle.std.proofs.Common.{◌≡◌, ℕ, List, [], ◌∷◌, ◌++◌, Option, Some, None, refl, sym, ◌∙◌, ap, subst, append_assoc, IfSome}
use Rattle.std.proofs.lemmas.List.{append-nil}
use Rattle.cedar_lexer.specs.Token.{Lexeme}
use Rattle.cedar_lexer.specs.declared.token.TokenKind.{TokenKind}
use Rattle.cedar_lexer.specs.declared.token.TokenKind.TheVariants as kind
use Rattle.cedar_syntax.specs.declared.cst.Expr.{Expr}
use Rattle.cedar_syntax.specs.declared.cst.Add.{Add}
use Rattle.cedar_syntax.specs.declared.cst.Primary.{Primary}
use Rattle.cedar_syntax.specs.declared.cst.Ident.{Ident}
use Rattle.cedar_syntax.specs.declared.cst.Ident.TheVariants as ident
use Rattle.cedar_expression_machine.specs.machines.Named.{NameOrEntity, ReadsNamed, a_path, a_ref}
use Rattle.cedar_expression_machine.specs.declared.words.state.WordsState.{WordsState}
use Rattle.cedar_expression_machine.specs.declared.expression.state.Spanned.{Spanned}
use Rattle.cedar_expression_machine.specs.declared.expression.state.PendingOperators.{PendingOperators}
use Rattle.cedar_expression_machine.specs.declared.expression.state.Signs.{Signs}
use Rattle.cedar_expression_machine.specs.declared.expression.state.Operand.{Operand}
use Rattle.cedar_expression_machine.specs.declared.expression.state.Frame.{Frame}
use Rattle.cedar_expression_machine.specs.declared.expression.state.OperandPlace.{OperandPlace}
use Rattle.cedar_expression_machine.specs.declared.expression.state.OperandPlace.TheVariants as place
use Rattle.cedar_expression_machine.specs.declared.expression.state.State.{State}
use Rattle.cedar_expression_machine.specs.declared.expression.state.StartSymbol.{StartSymbol}
use Rattle.cedar_expression_machine.specs.declared.expression.state.StartSymbol.TheVariants as form
use Rattle.cedar_expression_machine.specs.declared.expression.state.FollowSet.{FollowSet}
use Rattle.cedar_expression_machine.specs.declared.expression.state.FollowSet.TheVariants as follow_set
use Rattle.cedar_grammar.specs.grammar.Place.{placed}
use Rattle.cedar_syntax.specs.tokens.Tokens.{Spot, one, any_of}
use Rattle.cedar_syntax.specs.trees.Trees.{Cell, name_of}
use Rattle.cedar_grammar.specs.grammar.LooseExpressions.{ReadsExpr, ReadsAdd, no_access, ReadsPrimary, literally, referred, named}
use Rattle.cedar_grammar.specs.grammar.LooseWords.{common as common_name, truth, falsity, any, one_word, more_words, qualified}
use Rattle.cedar_expression_machine.specs.machines.Closing.{add_at, whole, if_operand}
use Rattle.cedar_grammar.specs.machines.Machine.{Machine, machine_of, Comes, steps, answer_state, IsParser, option_image}
use Rattle.cedar_expression_machine.specs.machines.ExpressionStates.{opening}
use Rattle.cedar_expression_machine.specs.machines.ExpressionPlans.{start_follow_set, edge, if_ends}
use Rattle.cedar_expression_machine.specs.machines.Expressions.{single_word_is_if, single_word_operand, with_words, named_at_end, last_operand, expr_at_end, sum_at_end, primary_at_end, expression_reader, sum_reader, primary_reader}
use Rattle.cedar_expression_machine.specs.machines.ExpressionShapes.{WordOutline}
use Rattle.cedar_expression_machine.proofs.expressions.Held.{Held}
use Rattle.cedar_expression_machine.proofs.expressions.sound.Begun.{at, closed, Reading, no_mult, no_add, no_branch, in_sum, begun_if, whole_longer, sum_longer, if_longer, Holds, holds, holds_primary, bottom, in_paren, in_set, in_call, in_index, in_key, in_value, in_guard, in_then, Wants, at_expr, at_item, at_key, at_has, at_operand, at_primary, Begun, is_wanting, is_worded, is_dotted, is_had}
use Rattle.cedar_expression_machine.proofs.expressions.sound.Closing.{sum_close}
use Rattle.cedar_expression_machine.proofs.expressions.sound.Operators.{moved, leads_to, unsigned_sum, wants_leads, opens_expr}
use Rattle.cedar_expression_machine.proofs.expressions.sound.Brackets.{holds_whole}
use Rattle.cedar_expression_machine.proofs.expressions.sound.Steps.{true_kind, false_kind, if_kind, path_name, word_path, step_begun}
use Rattle.cedar_expression_machine.proofs.expressions.Stepping.{Names, step_of, takes_so}
use Rattle.cedar_grammar.proofs.machines.Laws.{some_is, none_some, steps-none}

-- the last operand, with all that is begun before it

abbrev LastIs : List ℕ → StartSymbol → List Lexeme → List Lexeme → List Frame → PendingOperators → OperandPlace → Signs → NameOrEntity → Type 0
LastIs src w us vs st lv pl sg x = IfSome (named_at_end src pl sg x) (λ m. Holds src (edge w st) (us ++ vs) lv m)

if_at_last : {src : List ℕ} {w : StartSymbol} {us : List Lexeme} {st : List Frame} {lv : PendingOperators} {pl : OperandPlace} {sg : Signs} (p : Spot) → Wants src w us st lv pl sg → LastIs src w us (one kind.If p) st lv pl sg (word_path src kind.If p ident.If)
if_at_last {src = src} {us = us} {lv = lv} p (at_has e b) = subst (λ r. Holds src r (us ++ one kind.If p) lv (if_operand src (Some (at p)))) (sym e) (holds (if_longer b (begun_if p no_access)))
if_at_last p (at_expr e b) = tt
if_at_last p at_item = tt
if_at_last p at_key = tt
if_at_last p (at_operand o) = tt
if_at_last p (at_primary e) = tt

abbrev AloneLast : List ℕ → StartSymbol → List Lexeme → List Frame → PendingOperators → OperandPlace → Signs → TokenKind → Spot → Ident → Type 0
AloneLast src w us st lv pl sg k p i = LastIs src w us (one k p) st lv pl sg (word_path src k p i)

alone_last : {src : List ℕ} {w : StartSymbol} {us : List Lexeme} {st : List Frame} {lv : PendingOperators} {pl : OperandPlace} {sg : Signs} (k : TokenKind) (p : Spot) (i : Ident) → any_of k p.text ≡ Some i → Wants src w us st lv pl sg → AloneLast src w us st lv pl sg k p i
alone_last {src = src} {w = w} {us = us} {st = st} {lv = lv} {pl = pl} {sg = sg} k p ident.True e b =
    subst (λ j. AloneLast src w us st lv pl sg j p ident.True) (sym (true_kind k p.text e)) (leads_to (wants_leads b) (literally (truth p)))
alone_last {src = src} {w = w} {us = us} {st = st} {lv = lv} {pl = pl} {sg = sg} k p ident.False e b =
    subst (λ j. AloneLast src w us st lv pl sg j p ident.False) (sym (false_kind k p.text e)) (leads_to (wants_leads b) (literally (falsity p)))
alone_last {src = src} {w = w} {us = us} {st = st} {lv = lv} {pl = pl} {sg = sg} k p ident.If e b =
    subst (λ j. AloneLast src w us st lv pl sg j p ident.If) (sym (if_kind k p.text e)) (if_at_last p b)
alone_last k p _ e b = leads_to (wants_leads b) (named (common_name (any p e) refl))

named_last : {src : List ℕ} {w : StartSymbol} {us vs : List Lexeme} {st : List Frame} {lv : PendingOperators} {pl : OperandPlace} {sg : Signs} {x : NameOrEntity} → Wants src w us st lv pl sg → ReadsNamed src vs x → LastIs src w us vs st lv pl sg x
named_last b (a_ref r) = leads_to (wants_leads b) (referred r)
named_last b (a_path (one_word (any {k = k} {i = i} p e))) = alone_last k p i e b
named_last {src = src} {w = w} {us = us} {vs = vs} {st = st} {lv = lv} {pl = pl} {sg = sg} b (a_path (more_words {us = ws} {xs = xs} {x = x} {i = i} p r h)) =
    subst (λ q. IfSome (cond (if_ends pl (single_word_is_if q)) (Some (single_word_operand src sg (closed vs (name_of (xs ++ x ∷ []) (placed src ws i))) q)) None) (λ m. Holds src (edge w st) (us ++ vs) lv m)) (sym (path_name xs x (placed src ws i)))
    (leads_to (wants_leads b) (named (qualified p r h)))

words_last : {src : List ℕ} {w : StartSymbol} {us : List Lexeme} {st : List Frame} {lv : PendingOperators} {pl : OperandPlace} {sg : Signs} (names : Names) → IsParser (machine_of src names) (ReadsNamed src) → (vs : List Lexeme) (s : WordsState) → Wants src w us st lv pl sg → Comes (machine_of src names) vs s →
    IfSome (with_words (names.finish src s) (λ x. named_at_end src pl sg x)) (λ m. Holds src (edge w st) (us ++ vs) lv m)
words_last {src = src} {w = w} {us = us} {st = st} {lv = lv} {pl = pl} {sg = sg} names d vs s b c = go (names.finish src s) refl
  where
    go : (o : Option NameOrEntity) → names.finish src s ≡ o → IfSome (with_words o (λ x. named_at_end src pl sg x)) (λ m. Holds src (edge w st) (us ++ vs) lv m)
    go None e = tt
    go (Some x) e = named_last b (d.sound vs s x c e)

abbrev Last : List ℕ → Names → StartSymbol → List Lexeme → State → Type 0
Last src names w ts s = IfSome (last_operand src names s.stack s.mode) (λ m. Holds src (start_follow_set w) ts s.levels m)

last_begun : {src : List ℕ} {w : StartSymbol} {ts : List Lexeme} {s : State} (names : Names) → IsParser (machine_of src names) (ReadsNamed src) → Begun src names w ts s → Last src names w ts s
last_begun names d (is_had bottom b) = b
last_begun names d (is_worded vs {s = s} bottom b c) = words_last names d vs s b c
last_begun names d (is_wanting bottom b) = tt
last_begun names d (is_dotted i bottom b) = tt
last_begun names d (is_had (in_paren l a x) b) = tt
last_begun names d (is_worded vs (in_paren l a x) b c) = tt
last_begun names d (is_wanting (in_paren l a x) b) = tt
last_begun names d (is_dotted i (in_paren l a x) b) = tt
last_begun names d (is_had (in_set l a x y) b) = tt
last_begun names d (is_worded vs (in_set l a x y) b c) = tt
last_begun names d (is_wanting (in_set l a x y) b) = tt
last_begun names d (is_dotted i (in_set l a x y) b) = tt
last_begun names d (is_had (in_call l a x y) b) = tt
last_begun names d (is_worded vs (in_call l a x y) b c) = tt
last_begun names d (is_wanting (in_call l a x y) b) = tt
last_begun names d (is_dotted i (in_call l a x y) b) = tt
last_begun names d (is_had (in_index l a x) b) = tt
last_begun names d (is_worded vs (in_index l a x) b c) = tt
last_begun names d (is_wanting (in_index l a x) b) = tt
last_begun names d (is_dotted i (in_index l a x) b) = tt
last_begun names d (is_had (in_key l a x y) b) = tt
last_begun names d (is_worded vs (in_key l a x y) b c) = tt
last_begun names d (is_wanting (in_key l a x y) b) = tt
last_begun names d (is_dotted i (in_key l a x y) b) = tt
last_begun names d (is_had (in_value l a x y z) b) = tt
last_begun names d (is_worded vs (in_value l a x y z) b c) = tt
last_begun names d (is_wanting (in_value l a x y z) b) = tt
last_begun names d (is_dotted i (in_value l a x y z) b) = tt
last_begun names d (is_had (in_guard l e a x) b) = tt
last_begun names d (is_worded vs (in_guard l e a x) b c) = tt
last_begun names d (is_wanting (in_guard l e a x) b) = tt
last_begun names d (is_dotted i (in_guard l e a x) b) = tt
last_begun names d (is_had (in_then l m e a x y) b) = tt
last_begun names d (is_worded vs (in_then l m e a x y) b c) = tt
last_begun names d (is_wanting (in_then l m e a x y) b) = tt
last_begun names d (is_dotted i (in_then l m e a x y) b) = tt

-- a run over tokens

run_on : (src : List ℕ) (names : Names) (w : StartSymbol) {T : Type 0} (m : Machine Lexeme State T) (ts : List Lexeme) (u : Lexeme) (us : List Lexeme) (r : State) (o : Option State) → IfSome o (λ q. Begun src names w (ts ++ u ∷ []) q) →
    steps m o us ≡ Some r → ((q : State) → Begun src names w (ts ++ u ∷ []) q → steps m (Some q) us ≡ Some r → Begun src names w ((ts ++ u ∷ []) ++ us) r) → Begun src names w (ts ++ u ∷ us) r
run_on src names w m ts u us r None i g go = absurd (none_some refl (sym (steps-none m us) ∙ g))
run_on src names w m ts u us r (Some q) i g go = moved (append_assoc ts (u ∷ []) us) (go q i g)

-- any machine whose steps are these
run_begun : {W K : Type 0} {src : List ℕ} {w : StartSymbol} {T : Type 0} {names : Names} {n : WordOutline W K} {f : WordsState → W} {g : NameOrEntity → K} → Held src names n f g → (m : Machine Lexeme State T) → ((s : State) (t : Lexeme) → answer_state (m.step s t) ≡ step_of w src names n f s t) →
    (ts us : List Lexeme) (s r : State) → Begun src names w ts s → steps m (Some s) us ≡ Some r → Begun src names w (ts ++ us) r
run_begun {src = src} {w = w} {names = names} d m f ts [] s r h e = moved (sym (append-nil ts)) (subst (λ q. Begun src names w ts q) (some_is e) h)
run_begun {src = src} {w = w} {names = names} {n = n} {f = shape} d m f ts (u ∷ us) s r h e =
    run_on src names w m ts u us r (step_of w src names n shape s u) (step_begun d h u) (ap (λ q. steps m q us) (sym (f s u)) ∙ e) (λ q i g. run_begun d m f (ts ++ u ∷ []) us q r i g)

last_of : {W K : Type 0} {src : List ℕ} {w : StartSymbol} {T : Type 0} {names : Names} {n : WordOutline W K} {f : WordsState → W} {g : NameOrEntity → K} (d : Held src names n f g) (m : Machine Lexeme State T) (i : (s : State) (t : Lexeme) → answer_state (m.step s t) ≡ step_of w src names n f s t) (ts : List Lexeme) (s : State) →
    Begun src names w [] m.start → Comes m ts s → Last src names w ts s
last_of {names = names} d m i ts s b c = last_begun names d.parser (run_begun d m i [] ts m.start s b c)

ended_with : {T : Type 0} (R : T → Type 0) (g : Operand → T) (o : Option Operand) (P : Operand → Type 0) (x : T) → IfSome o P → ((m : Operand) → P m → R (g m)) → option_image g o ≡ Some x → R x
ended_with R g None P x h f e = absurd (none_some refl e)
ended_with R g (Some m) P x h f e = subst R (some_is e) (f m h)

expr_starts : (src : List ℕ) (names : Names) → Begun src names form.Expr [] (opening [] [] place.Expr)
expr_starts src names = opens_expr refl bottom no_branch

pub expressions_sound : {W K : Type 0} (src : List ℕ) (names : Names) (n : WordOutline W K) (f : WordsState → W) {g : NameOrEntity → K} → Held src names n f g → (ts : List Lexeme) (s : State) (x : Spanned Expr) → Comes (machine_of src (expression_reader names n f)) ts s → expr_at_end src names s ≡ Some x → Reading (ReadsExpr src) ts x
expressions_sound src names n f d ts s x c e =
    ended_with (λ y. Reading (ReadsExpr src) ts y) (λ m. whole src s.levels m) (last_operand src names s.stack s.mode) (λ m. Holds src follow_set.Whole ts s.levels m) x
    (last_of {w = form.Expr} d (machine_of src (expression_reader names n f)) (takes_so form.Expr src names n f (λ src s. expr_at_end src names s)) ts s (expr_starts src names) c) (λ m h. holds_whole h) e

sum_starts : (src : List ℕ) (names : Names) → Begun src names form.Sum [] (opening [] [] place.Operand)
sum_starts src names = is_wanting bottom (at_operand (unsigned_sum (in_sum no_add no_mult)))

whole_sum : follow_set.Whole ≡ follow_set.Sum → ⊥
whole_sum e = cc

primary_sum : follow_set.Primary ≡ follow_set.Sum → ⊥
primary_sum e = cc

whole_primary : follow_set.Whole ≡ follow_set.Primary → ⊥
whole_primary e = cc

sum_primary : follow_set.Sum ≡ follow_set.Primary → ⊥
sum_primary e = cc

holds_sum : {src : List ℕ} {r : FollowSet} {us : List Lexeme} {lv : PendingOperators} {m : Operand} → r ≡ follow_set.Sum → Holds src r us lv m → Reading (ReadsAdd src) us (add_at src lv m)
holds_sum e (holds (sum_longer b c)) = sum_close b c
holds_sum e (holds (whole_longer b c)) = absurd (whole_sum e)
holds_sum e (holds (if_longer b c)) = absurd (whole_sum e)
holds_sum e (holds_primary b) = absurd (primary_sum e)

pub sums_sound : {W K : Type 0} (src : List ℕ) (names : Names) (n : WordOutline W K) (f : WordsState → W) {g : NameOrEntity → K} → Held src names n f g → (ts : List Lexeme) (s : State) (x : Spanned Add) → Comes (machine_of src (sum_reader names n f)) ts s → sum_at_end src names s ≡ Some x → Reading (ReadsAdd src) ts x
sums_sound src names n f d ts s x c e =
    ended_with (λ y. Reading (ReadsAdd src) ts y) (λ m. add_at src s.levels m) (last_operand src names s.stack s.mode) (λ m. Holds src follow_set.Sum ts s.levels m) x
    (last_of {w = form.Sum} d (machine_of src (sum_reader names n f)) (takes_so form.Sum src names n f (λ src s. sum_at_end src names s)) ts s (sum_starts src names) c) (λ m h. holds_sum refl h) e

-- a primary as a node at its place
pub data AloneAt (src : List ℕ) : List Lexeme → Cell Primary → Type 0 where
  alone_reads : {ts : List Lexeme} {x : Primary} → ReadsPrimary src ts x → AloneAt src ts (placed src ts x)

holds_alone : {src : List ℕ} {r : FollowSet} {us : List Lexeme} {lv : PendingOperators} {m : Operand} → r ≡ follow_set.Primary → Holds src r us lv m → AloneAt src us m.member.item
holds_alone e (holds_primary b) = alone_reads b
holds_alone e (holds (whole_longer b c)) = absurd (whole_primary e)
holds_alone e (holds (if_longer b c)) = absurd (whole_primary e)
holds_alone e (holds (sum_longer b c)) = absurd (sum_primary e)

pub primaries_sound : {W K : Type 0} (src : List ℕ) (names : Names) (n : WordOutline W K) (f : WordsState → W) {g : NameOrEntity → K} → Held src names n f g → (ts : List Lexeme) (s : State) (x : Cell Primary) → Comes (machine_of src (primary_reader names n f)) ts s → primary_at_end src names s ≡ Some x → AloneAt src ts x
primaries_sound src names n f d ts s x c e =
    ended_with (λ y. AloneAt src ts y) (λ m. m.member.item) (last_operand src names s.stack s.mode) (λ m. Holds src follow_set.Primary ts s.levels m) x
    (last_of {w = form.Primary} d (machine_of src (primary_reader names n f)) (takes_so form.Primary src names n f (λ src s. primary_at_end src names s)) ts s (is_wanting bottom (at_primary refl)) c) (λ m h. holds_alone refl h) e

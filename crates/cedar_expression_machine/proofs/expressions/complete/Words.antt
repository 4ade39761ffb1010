-- WordsState: while they go on they are pending, and behind them they are an operand.
use Rattle.std.proofs.Common.{◌≡◌, ℕ, List, [], ◌∷◌, ◌++◌, Option, Some, true, refl, sym, ◌∙◌, ap, subst, None, false, Bool}
use Rattle.std.specs.Prelude.{cond, IsTrue}
use Rattle.cedar_lexer.specs.Token.{Lexeme}
use Rattle.cedar_lexer.specs.declared.token.TokenKind.{TokenKind}
use Rattle.cedar_lexer.specs.declared.token.TokenKind.TheVariants as kind
use Rattle.cedar_syntax.specs.declared.cst.Primary.{Primary}
use Rattle.cedar_syntax.specs.declared.cst.Primary.TheVariants as primary
use Rattle.cedar_syntax.specs.declared.cst.Literal.{Literal}
use Rattle.cedar_syntax.specs.declared.cst.Literal.TheVariants as literal
use Rattle.cedar_syntax.specs.declared.cst.Slot.{Slot}
use Rattle.cedar_syntax.specs.declared.cst.Ident.{Ident}
use Rattle.cedar_syntax.specs.declared.cst.Ident.TheVariants as ident
use Rattle.cedar_syntax.specs.declared.cst.Name.{Name}
use Rattle.cedar_syntax.specs.declared.cst.Ref.{Ref}
use Rattle.cedar_expression_machine.specs.machines.Named.{NameOrEntity, ReadsNamed, a_path, a_ref, joins_words}
use Rattle.cedar_expression_machine.specs.machines.Named as named_as
use Rattle.cedar_expression_machine.specs.declared.words.state.WordsState.{WordsState}
use Rattle.cedar_expression_machine.specs.declared.expression.state.Spanned.{Spanned}
use Rattle.cedar_expression_machine.specs.declared.expression.state.PendingOperators.{PendingOperators}
use Rattle.cedar_expression_machine.specs.declared.expression.state.Signs.{Signs}
use Rattle.cedar_expression_machine.specs.declared.expression.state.Operand.{Operand}
use Rattle.cedar_expression_machine.specs.declared.expression.state.Frame.{Frame}
use Rattle.cedar_expression_machine.specs.declared.expression.state.OperandPlace.{OperandPlace}
use Rattle.cedar_expression_machine.specs.declared.expression.state.OperandMode.{OperandMode}
use Rattle.cedar_expression_machine.specs.declared.expression.state.OperandMode.TheVariants as mode
use Rattle.cedar_expression_machine.specs.declared.expression.state.State.{State}
use Rattle.cedar_expression_machine.specs.declared.expression.state.SingleWord.TheVariants as single
use Rattle.cedar_grammar.specs.grammar.Place.{extent, extent_of, placed}
use Rattle.cedar_syntax.specs.tokens.Tokens.{Spot, one, number_of, fits, any_of}
use Rattle.cedar_syntax.specs.trees.Trees.{Cell, name_of}
use Rattle.cedar_grammar.specs.grammar.LooseWords.{ReadsLiteral, truth, falsity, number, string, any, ReadsPath, one_word, more_words, is_common, ReadsName, common, qualified, ReadsRef, uid, with_inits}
use Rattle.cedar_grammar.specs.grammar.LooseExpressions.{ReadsSlot, principal_slot, resource_slot, other_slot}
use Rattle.cedar_grammar.specs.machines.Machine.{Answer, next, ended, refused, too_large, answer_state, machine_of, steps, is_some, option_image}
use Rattle.cedar_expression_machine.specs.machines.Closing.{spanned_tree, operand_of}
use Rattle.cedar_grammar.specs.machines.Classes.{class_or_word, follow_class}
use Rattle.cedar_expression_machine.specs.machines.ExpressionStates.{state}
use Rattle.cedar_expression_machine.specs.machines.Wanting.{first_act, word_held, number_reading}
use Rattle.cedar_expression_machine.specs.machines.Having.{follow_act}
use Rattle.cedar_expression_machine.specs.machines.ExpressionShapes.{stack_shape, relation_shape, op_sign}
use Rattle.cedar_expression_machine.specs.machines.ExpressionPlans.{edge, may_follow, if_follows, operand_class_plan, or_else, ended_words_plan, reduce_plan, if_ends}
use Rattle.cedar_grammar.specs.declared.reading.class.FollowClass.{FollowClass}
use Rattle.cedar_expression_machine.specs.declared.expression.state.Act.{Act}
use Rattle.cedar_expression_machine.specs.declared.expression.state.Act.TheVariants as act
use Rattle.cedar_expression_machine.specs.declared.expression.state.FollowSet.TheVariants as follow_set
use Rattle.cedar_grammar.proofs.machines.SingleTokens.{same_any}
use Rattle.cedar_expression_machine.proofs.expressions.Stepping.{planned, planned_same, had}
use Rattle.cedar_grammar.proofs.machines.Readers.{taken_by, ended_by}
use Rattle.cedar_expression_machine.specs.machines.Expressions.{word_alone, single_word, single_word_is_if, named_is_if, single_word_operand, named_operand, named_extent, with_words, guard_beginning, if_key_reading, want_act, word_act, named_at_end}
use Rattle.cedar_expression_machine.proofs.expressions.complete.Runs.{from, steps_to, having, same_follow_set, some_is, none_some, Setting, run, token, StandsAt, stands}
use Rattle.cedar_grammar.proofs.machines.Laws.{steps-none}

-- a tree and the extent of its tokens
abbrev pub closed : {T : Type 0} → List Lexeme → T → Spanned T
closed ts x = spanned_tree (extent ts) x

-- pending words

abbrev pub in_words : List Frame → PendingOperators → OperandPlace → Signs → WordsState → Option State
in_words st lv pl sg s = Some (state st lv (mode.Word pl sg s))

-- a token that the words take
word_taken : {src : List ℕ} (c : Setting src) (st : List Frame) (lv : PendingOperators) (pl : OperandPlace) (sg : Signs) (s v : WordsState) (t : Lexeme) → (machine_of src c.names).step s t ≡ next v → from c (in_words st lv pl sg s) t ≡ in_words st lv pl sg v
word_taken {src = src} c st lv pl sg s v t e =
    let h = taken_by src c.names s v t e in
    ap (λ q. planned (or_else (option_image (λ a. act.Words a) q) (ended_words_plan c.symbol (stack_shape st) (relation_shape lv.relation) pl (option_image c.outline.is_if (c.outline.outline.finish (c.shape s))) t.kind)) (λ a. word_act src c.names st lv pl sg s a t))
    (sym (c.held.outlined.plans s t.kind) ∙ h.planned)
    ∙ ap (λ o. option_image (λ w. word_held st lv pl sg w) o) h.made

held_by : {src : List ℕ} (c : Setting src) (st : List Frame) (lv : PendingOperators) (pl : OperandPlace) (sg : Signs) (s : WordsState) (t : Lexeme) (ts : List Lexeme) (r : WordsState) (a : Answer WordsState NameOrEntity) → (machine_of src c.names).step s t ≡ a →
    ((v : WordsState) → steps (machine_of src c.names) (Some v) ts ≡ Some r → run c (in_words st lv pl sg v) ts ≡ in_words st lv pl sg r) → steps (machine_of src c.names) (answer_state a) ts ≡ Some r →
    run c (from c (in_words st lv pl sg s) t) ts ≡ in_words st lv pl sg r
held_by c st lv pl sg s t ts r (next v) e f g = ap (λ o. run c o ts) (word_taken c st lv pl sg s v t e) ∙ f v g
held_by {src = src} c st lv pl sg s t ts r (ended x) e f g = absurd (none_some refl (sym (steps-none (machine_of src c.names) ts) ∙ g))
held_by {src = src} c st lv pl sg s t ts r refused e f g = absurd (none_some refl (sym (steps-none (machine_of src c.names) ts) ∙ g))
held_by {src = src} c st lv pl sg s t ts r too_large e f g = absurd (none_some refl (sym (steps-none (machine_of src c.names) ts) ∙ g))

-- what goes on with the words goes on with the pending operand
pub held : {src : List ℕ} (c : Setting src) (st : List Frame) (lv : PendingOperators) (pl : OperandPlace) (sg : Signs) (ts : List Lexeme) (s r : WordsState) → steps (machine_of src c.names) (Some s) ts ≡ Some r →
    run c (in_words st lv pl sg s) ts ≡ in_words st lv pl sg r
held c st lv pl sg [] s r e = ap (λ w. in_words st lv pl sg w) (some_is e)
held {src = src} c st lv pl sg (t ∷ ts) s r e = held_by c st lv pl sg s t ts r ((machine_of src c.names).step s t) refl (λ w f. held c st lv pl sg ts w r f) e

-- the first word

first_of : {src : List ℕ} (c : Setting src) (st : List Frame) (lv : PendingOperators) (pl : OperandPlace) (sg : Signs) (t : Lexeme) (v : WordsState) (o : Option Ident) → is_some o ≡ true → (machine_of src c.names).step c.names.start t ≡ next v →
    planned (option_image (λ b. act.Begin b) (operand_class_plan (stack_shape st) pl (op_sign sg.op) (class_or_word t.kind o))) (λ a. want_act src c.names st lv pl sg a t) ≡ in_words st lv pl sg v
first_of {src = src} c st lv pl sg t v (Some i) f e =
    let h = taken_by src c.names c.names.start v t e in
    ap (λ o. option_image (λ w. word_held st lv pl sg w) (first_act src c.names t o)) h.planned ∙ ap (λ o. option_image (λ w. word_held st lv pl sg w) o) h.made
first_of c st lv pl sg t v None f e = absurd (cc)

begun_by : {src : List ℕ} (c : Setting src) (st : List Frame) (lv : PendingOperators) (pl : OperandPlace) (sg : Signs) (t : Lexeme) (ts : List Lexeme) (r : WordsState) (a : Answer WordsState NameOrEntity) → is_some (any_of t.kind []) ≡ true → (machine_of src c.names).step c.names.start t ≡ a →
    steps (machine_of src c.names) (answer_state a) ts ≡ Some r → run c (from c (Some (state st lv (mode.Want pl sg))) t) ts ≡ in_words st lv pl sg r
begun_by c st lv pl sg t ts r (next v) f e g = ap (λ o. run c o ts) (first_of c st lv pl sg t v (any_of t.kind []) f e) ∙ held c st lv pl sg ts v r g
begun_by {src = src} c st lv pl sg t ts r (ended x) f e g = absurd (none_some refl (sym (steps-none (machine_of src c.names) ts) ∙ g))
begun_by {src = src} c st lv pl sg t ts r refused f e g = absurd (none_some refl (sym (steps-none (machine_of src c.names) ts) ∙ g))
begun_by {src = src} c st lv pl sg t ts r too_large f e g = absurd (none_some refl (sym (steps-none (machine_of src c.names) ts) ∙ g))

pub begun : {src : List ℕ} (c : Setting src) (st : List Frame) (lv : PendingOperators) (pl : OperandPlace) (sg : Signs) (t : Lexeme) (ts : List Lexeme) (i : Ident) (r : WordsState) → any_of t.kind t.text ≡ Some i →
    steps (machine_of src c.names) (Some c.names.start) (t ∷ ts) ≡ Some r → run c (Some (state st lv (mode.Want pl sg))) (t ∷ ts) ≡ in_words st lv pl sg r
begun {src = src} c st lv pl sg t ts i r e f = begun_by c st lv pl sg t ts r ((machine_of src c.names).step c.names.start t) (same_any t.kind t.text ∙ ap (λ o. is_some o) e) refl f

record BeginsAsWord (ts : List Lexeme) : Type 0 where
  first : Lexeme
  rest : List Lexeme
  word : Ident
  splits : ts ≡ first ∷ rest
  reads : any_of first.kind first.text ≡ Some word

more_behind : (ts us : List Lexeme) → BeginsAsWord ts → BeginsAsWord (ts ++ us)
more_behind ts us h = record { first = h.first; rest = h.rest ++ us; word = h.word; splits = ap (λ q. q ++ us) h.splits; reads = h.reads }

path_begins : {src : List ℕ} {ts : List Lexeme} {xs : List (Cell Ident)} {x : Cell Ident} → ReadsPath src ts xs x → BeginsAsWord ts
path_begins (one_word (any {k = k} {i = i} p e)) = record { first = token k p; rest = []; word = i; splits = refl; reads = e }
path_begins (more_words {ts = ts} {us = us} p r s) = more_behind (ts ++ one kind.ColonColon p) us (more_behind ts (one kind.ColonColon p) (path_begins r))

ref_begins : {src : List ℕ} {ts : List Lexeme} {x : Ref} → ReadsRef src ts x → BeginsAsWord ts
ref_begins (uid {ts = ts} p q r) = more_behind (ts ++ one kind.ColonColon p) (one kind.StringLit q) (more_behind ts (one kind.ColonColon p) (path_begins r))
ref_begins (with_inits {ts = ts} {us = us} p l m r s) =
    more_behind (ts ++ one kind.ColonColon p ++ one kind.OpenBrace l ++ us) (one kind.CloseBrace m)
    (more_behind (ts ++ one kind.ColonColon p ++ one kind.OpenBrace l) us (more_behind (ts ++ one kind.ColonColon p) (one kind.OpenBrace l) (more_behind ts (one kind.ColonColon p) (path_begins r))))

named_begins : {src : List ℕ} {ts : List Lexeme} {x : NameOrEntity} → ReadsNamed src ts x → BeginsAsWord ts
named_begins (a_path r) = path_begins r
named_begins (a_ref r) = ref_begins r

pub record WordsAt {src : List ℕ} (c : Setting src) (st : List Frame) (lv : PendingOperators) (pl : OperandPlace) (sg : Signs) (ts : List Lexeme) (x : NameOrEntity) : Type 0 where
  pub last : WordsState
  pub ends : c.names.finish src last ≡ Some x
  pub goes : run c (Some (state st lv (mode.Want pl sg))) ts ≡ in_words st lv pl sg last

pub words_run : {src : List ℕ} (c : Setting src) (st : List Frame) (lv : PendingOperators) (pl : OperandPlace) (sg : Signs) (ts : List Lexeme) (x : NameOrEntity) → ReadsNamed src ts x → WordsAt c st lv pl sg ts x
words_run {src = src} c st lv pl sg ts x r =
    let h = c.held.parser.complete ts x r in
    let f = named_begins r in
    record {
      last = h.last;
      ends = h.ends;
      goes = subst (λ q. run c (Some (state st lv (mode.Want pl sg))) q ≡ in_words st lv pl sg h.last) (sym f.splits)
          (begun c st lv pl sg f.first f.rest f.word h.last f.reads (subst (λ q. steps (machine_of src c.names) (Some c.names.start) q ≡ Some h.last) f.splits h.goes));
    }

-- the operand that words are

-- what is done behind words that have ended with this tree
abbrev pub word_by : {src : List ℕ} → Setting src → List Frame → PendingOperators → OperandPlace → Signs → WordsState → Option NameOrEntity → Act → Lexeme → Option State
word_by {src = src} c st lv pl sg s o (act.Words a) t = option_image (λ v. word_held st lv pl sg v) (c.names.act src s a t)
word_by {src = src} c st lv pl sg s o (act.Reduce p) t = with_words o (λ x. follow_act src st lv (named_operand src sg x) p (extent_of t))
word_by {src = src} c st lv pl sg s o (act.Guard b) t = with_words o (λ x. guard_beginning src c.names st lv (named_extent x) b t)
word_by {src = src} c st lv pl sg s o act.Key t = with_words o (λ x. if_key_reading src st (named_extent x) (extent_of t))
word_by c st lv pl sg s o _ t = None

abbrev pub ended_step : {src : List ℕ} → Setting src → List Frame → PendingOperators → OperandPlace → Signs → WordsState → NameOrEntity → Lexeme → Option State
ended_step c st lv pl sg s x t = planned (ended_words_plan c.symbol (stack_shape st) (relation_shape lv.relation) pl (Some (named_is_if x)) t.kind) (λ a. word_by c st lv pl sg s (Some x) a t)

word_is : {src : List ℕ} (c : Setting src) (st : List Frame) (lv : PendingOperators) (pl : OperandPlace) (sg : Signs) (s : WordsState) (t : Lexeme) (a : Act) → word_act src c.names st lv pl sg s a t ≡ word_by c st lv pl sg s (c.names.finish src s) a t
word_is c st lv pl sg s t (act.Words a) = refl
word_is c st lv pl sg s t (act.Reduce p) = refl
word_is c st lv pl sg s t (act.Guard b) = refl
word_is c st lv pl sg s t act.Key = refl
word_is c st lv pl sg s t (act.Begin b) = refl
word_is c st lv pl sg s t act.Field = refl
word_is c st lv pl sg s t (act.Follow o) = refl

-- any token but `::` has ended them
pub words_end_so : {src : List ℕ} (c : Setting src) (st : List Frame) (lv : PendingOperators) (pl : OperandPlace) (sg : Signs) (s : WordsState) (x : NameOrEntity) (t : Lexeme) → joins_words t.kind ≡ false → c.names.finish src s ≡ Some x →
    steps_to c (state st lv (mode.Word pl sg s)) t ≡ ended_step c st lv pl sg s x t
words_end_so {src = src} c st lv pl sg s x t j e =
    let u = (ended_by src c.names s t x (c.words.ends s x t j e)).0 in
    let k = c.held.outlined.finishes s ∙ ap (λ o. option_image c.kind o) e in
    ap (λ q. planned (or_else (option_image (λ a. act.Words a) q) (ended_words_plan c.symbol (stack_shape st) (relation_shape lv.relation) pl (option_image c.outline.is_if (c.outline.outline.finish (c.shape s))) t.kind)) (λ a. word_act src c.names st lv pl sg s a t))
    (sym (c.held.outlined.plans s t.kind) ∙ u)
    ∙ ap (λ o. planned (ended_words_plan c.symbol (stack_shape st) (relation_shape lv.relation) pl (option_image c.outline.is_if o) t.kind) (λ a. word_act src c.names st lv pl sg s a t)) k
    ∙ ap (λ b. planned (ended_words_plan c.symbol (stack_shape st) (relation_shape lv.relation) pl (Some b) t.kind) (λ a. word_act src c.names st lv pl sg s a t)) (c.held.ifs x)
    ∙ planned_same (ended_words_plan c.symbol (stack_shape st) (relation_shape lv.relation) pl (Some (named_is_if x)) t.kind) (λ a. word_act src c.names st lv pl sg s a t) (λ a. word_by c st lv pl sg s (Some x) a t)
    (λ a. word_is c st lv pl sg s t a ∙ ap (λ o. word_by c st lv pl sg s o a t) e)

pub reduced : {src : List ℕ} (c : Setting src) (st : List Frame) (lv : PendingOperators) (pl : OperandPlace) (sg : Signs) (s : WordsState) (x : NameOrEntity) (t : Lexeme) (b : Bool) (o : FollowClass) →
    planned (reduce_plan (if_follows b o)) (λ a. word_by c st lv pl sg s (Some x) a t) ≡ cond b (follow_act src st lv (named_operand src sg x) o (extent_of t)) None
reduced c st lv pl sg s x t true o = refl
reduced c st lv pl sg s x t false o = refl

-- words that aren't `if` alone
name_step : {src : List ℕ} (c : Setting src) (st : List Frame) (lv : PendingOperators) (pl : OperandPlace) (sg : Signs) (s : WordsState) (x : NameOrEntity) (m : Operand) (t : Lexeme) → named_is_if x ≡ false → named_operand src sg x ≡ m → m.is_if ≡ false →
    ended_step c st lv pl sg s x t ≡ having c.symbol src st lv m t
name_step {src = src} c st lv pl sg s x m t f g h =
    ap (λ b. planned (ended_words_plan c.symbol (stack_shape st) (relation_shape lv.relation) pl (Some b) t.kind) (λ a. word_by c st lv pl sg s (Some x) a t)) f
    ∙ reduced c st lv pl sg s x t (may_follow (stack_shape st) (relation_shape lv.relation) (edge c.symbol (stack_shape st)) (follow_class t.kind)) (follow_class t.kind)
    ∙ ap (λ m. had src st lv m (edge c.symbol (stack_shape st)) (follow_class t.kind) (extent_of t)) g
    ∙ ap (λ b. had src st lv m (cond b follow_set.If (edge c.symbol (stack_shape st))) (follow_class t.kind) (extent_of t)) (sym h)
    ∙ same_follow_set c st lv m t

pub words_stand : {src : List ℕ} (c : Setting src) (st : List Frame) (lv : PendingOperators) (pl : OperandPlace) (sg : Signs) (s : WordsState) (x : NameOrEntity) (m : Operand) → c.names.finish src s ≡ Some x → named_is_if x ≡ false → named_operand src sg x ≡ m → m.is_if ≡ false →
    StandsAt c st lv (mode.Word pl sg s) m
words_stand {src = src} c st lv pl sg s x m e f g h = record {
  behind = λ t j. words_end_so c st lv pl sg s x t j e ∙ name_step c st lv pl sg s x m t f g h;
  ends = ap (λ o. with_words o (λ x. named_at_end src pl sg x)) e ∙ ap (λ b. cond (if_ends pl b) (Some (named_operand src sg x)) None) f ∙ ap (λ m. Some m) g;
}

-- a primary is read, and the machine stands at it
pub record PrimaryAt {src : List ℕ} (c : Setting src) (st : List Frame) (lv : PendingOperators) (pl : OperandPlace) (sg : Signs) (ts : List Lexeme) (x : Primary) : Type 0 where
  pub md : OperandMode
  pub at_it : StandsAt c st lv md (operand_of src sg (closed ts x))
  pub goes : run c (Some (state st lv (mode.Want pl sg))) ts ≡ Some (state st lv md)

-- it isn't pending
pub had_at : {src : List ℕ} (c : Setting src) (st : List Frame) (lv : PendingOperators) (pl : OperandPlace) (sg : Signs) (ts : List Lexeme) (x : Primary) →
    run c (Some (state st lv (mode.Want pl sg))) ts ≡ Some (state st lv (mode.Have (operand_of src sg (closed ts x)) None)) → PrimaryAt c st lv pl sg ts x
had_at {src = src} c st lv pl sg ts x e = record { md = mode.Have (operand_of src sg (closed ts x)) None; at_it = stands c st lv (operand_of src sg (closed ts x)); goes = e }

pending_at : {src : List ℕ} (c : Setting src) (st : List Frame) (lv : PendingOperators) (pl : OperandPlace) (sg : Signs) (ts : List Lexeme) (n : NameOrEntity) (x : Primary) → ReadsNamed src ts n → named_is_if n ≡ false → named_operand src sg n ≡ operand_of src sg (closed ts x) →
    PrimaryAt c st lv pl sg ts x
pending_at {src = src} c st lv pl sg ts n x r f g =
    let h = words_run c st lv pl sg ts n r in
    record { md = mode.Word pl sg h.last; at_it = words_stand c st lv pl sg h.last n (operand_of src sg (closed ts x)) h.ends f g refl; goes = h.goes }

-- literals

number_runs : {src : List ℕ} (c : Setting src) (st : List Frame) (lv : PendingOperators) (pl : OperandPlace) (sg : Signs) (p : Spot) → fits p.text ≡ true →
    PrimaryAt c st lv pl sg (one kind.Number p) (primary.Literal (placed src (one kind.Number p) (literal.Num (number_of p.text))))
number_runs {src = src} c st lv pl sg p e =
    had_at c st lv pl sg (one kind.Number p) (primary.Literal (placed src (one kind.Number p) (literal.Num (number_of p.text))))
    (ap (λ b. number_reading src st lv sg b (token kind.Number p)) e)

pub literal_runs : {src : List ℕ} (c : Setting src) {ts : List Lexeme} {x : Literal} → ReadsLiteral src ts x → (st : List Frame) (lv : PendingOperators) (pl : OperandPlace) (sg : Signs) →
    PrimaryAt c st lv pl sg ts (primary.Literal (placed src ts x))
literal_runs {src = src} c (truth p) st lv pl sg = pending_at c st lv pl sg (one kind.True p) _ (primary.Literal (placed src (one kind.True p) literal.True)) (a_path (one_word (any p refl))) refl refl
literal_runs {src = src} c (falsity p) st lv pl sg = pending_at c st lv pl sg (one kind.False p) _ (primary.Literal (placed src (one kind.False p) literal.False)) (a_path (one_word (any p refl))) refl refl
literal_runs c (number p h) st lv pl sg = number_runs c st lv pl sg p h
literal_runs c (string p) st lv pl sg = had_at c st lv pl sg (one kind.StringLit p) _ refl

-- slots

pub slot_runs : {src : List ℕ} (c : Setting src) {k : TokenKind} {x : Slot} (p : Spot) → ReadsSlot k p.text x → (st : List Frame) (lv : PendingOperators) (pl : OperandPlace) (sg : Signs) →
    PrimaryAt c st lv pl sg (one k p) (primary.Slot (placed src (one k p) x))
slot_runs c p principal_slot st lv pl sg = had_at c st lv pl sg (one kind.PrincipalSlot p) _ refl
slot_runs c p resource_slot st lv pl sg = had_at c st lv pl sg (one kind.ResourceSlot p) _ refl
slot_runs c p other_slot st lv pl sg = had_at c st lv pl sg (one kind.OtherSlot p) _ refl

-- names and entities

common_word : (i : Ident) → IsTrue (is_common i) → word_alone (Some i) ≡ single.Name
common_word ident.True e = absurd (cc)
common_word ident.False e = absurd (cc)
common_word ident.If e = absurd (cc)
common_word _ e = refl

pub further_word : (xs : List (Cell Ident)) (x y : Cell Ident) → single_word (xs ++ x ∷ []) y ≡ single.Name
further_word [] x y = refl
further_word (z ∷ xs) x y = refl

name_at_it : {src : List ℕ} (c : Setting src) (st : List Frame) (lv : PendingOperators) (pl : OperandPlace) (sg : Signs) (ts : List Lexeme) (xs : List (Cell Ident)) (x : Cell Ident) → ReadsPath src ts xs x → single_word xs x ≡ single.Name →
    PrimaryAt c st lv pl sg ts (primary.Name (placed src ts (name_of xs x)))
name_at_it {src = src} c st lv pl sg ts xs x r e =
    let n : Spanned Name = closed ts (name_of xs x) in
    pending_at c st lv pl sg ts (named_as.path n) (primary.Name (placed src ts (name_of xs x))) (a_path r)
    (ap (λ a. single_word_is_if a) e) (ap (λ a. single_word_operand src sg n a) e)

pub name_runs : {src : List ℕ} (c : Setting src) {ts : List Lexeme} {x : Name} → ReadsName src ts x → (st : List Frame) (lv : PendingOperators) (pl : OperandPlace) (sg : Signs) →
    PrimaryAt c st lv pl sg ts (primary.Name (placed src ts x))
name_runs {src = src} c (common {ts = ts} {i = i} r e) st lv pl sg = name_at_it c st lv pl sg ts [] (placed src ts i) (one_word r) (common_word i e)
name_runs {src = src} c (qualified {ts = ts} {us = us} {xs = xs} {x = x} {i = i} p r s) st lv pl sg =
    name_at_it c st lv pl sg (ts ++ one kind.ColonColon p ++ us) (xs ++ x ∷ []) (placed src us i) (more_words p r s) (further_word xs x (placed src us i))

pub ref_runs : {src : List ℕ} (c : Setting src) {ts : List Lexeme} {x : Ref} → ReadsRef src ts x → (st : List Frame) (lv : PendingOperators) (pl : OperandPlace) (sg : Signs) →
    PrimaryAt c st lv pl sg ts (primary.Ref (placed src ts x))
ref_runs {src = src} c {ts = ts} {x = x} r st lv pl sg = pending_at c st lv pl sg ts (named_as.entity (spanned_tree (extent ts) (placed src ts x))) (primary.Ref (placed src ts x)) (a_ref r) refl refl

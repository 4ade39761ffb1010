-- The word `if` alone: a guard begins behind it, or it is a key, or a name right of `has`.
use Rattle.cedar_expression_machine.specs.declared.expression.state.Signs.{Signs}
use Rattle.std.proofs.Common.{◌≡◌, ℕ, List, [], ◌∷◌, Option, Some, None, Bool, true, false, refl, sym, ◌∙◌, ap}
use Rattle.cedar_lexer.specs.Token.{Lexeme}
use Rattle.cedar_lexer.specs.declared.token.TokenKind.{TokenKind}
use Rattle.cedar_lexer.specs.declared.token.TokenKind.TheVariants as kind
use Rattle.cedar_syntax.specs.declared.cst.Ident.TheVariants as ident
use Rattle.cedar_syntax.specs.declared.cst.Name.{Name}
use Rattle.cedar_expression_machine.specs.machines.Named.{NameOrEntity, a_path, joins_words}
use Rattle.cedar_expression_machine.specs.machines.Named as named_as
use Rattle.cedar_expression_machine.specs.declared.words.state.WordsState.{WordsState}
use Rattle.cedar_expression_machine.specs.declared.expression.state.Spanned.{Spanned}
use Rattle.cedar_expression_machine.specs.declared.expression.state.Branch.{Branch}
use Rattle.cedar_expression_machine.specs.declared.expression.state.PendingOperators.{PendingOperators}
use Rattle.cedar_expression_machine.specs.declared.expression.state.Operand.{Operand}
use Rattle.cedar_expression_machine.specs.declared.expression.state.Record.{Record}
use Rattle.cedar_expression_machine.specs.declared.expression.state.Frame.{Frame}
use Rattle.cedar_expression_machine.specs.declared.expression.state.Frame.TheVariants as frame
use Rattle.cedar_expression_machine.specs.declared.expression.state.OperandPlace.{OperandPlace}
use Rattle.cedar_expression_machine.specs.declared.expression.state.OperandPlace.TheVariants as place
use Rattle.cedar_expression_machine.specs.declared.expression.state.OperandMode.{OperandMode}
use Rattle.cedar_expression_machine.specs.declared.expression.state.OperandMode.TheVariants as mode
use Rattle.cedar_expression_machine.specs.declared.expression.state.State.{State}
use Rattle.cedar_grammar.specs.grammar.Place.{placed}
use Rattle.cedar_syntax.specs.tokens.Tokens.{Spot, one}
use Rattle.cedar_syntax.specs.trees.Trees.{name_of}
use Rattle.cedar_grammar.specs.grammar.LooseWords.{any, one_word}
use Rattle.cedar_grammar.specs.machines.Machine.{option_image}
use Rattle.cedar_expression_machine.specs.machines.Closing.{no_signs, if_operand, if_key, fresh}
use Rattle.cedar_grammar.specs.machines.Classes.{start_class, follow_class}
use Rattle.cedar_expression_machine.specs.machines.ExpressionStates.{state, opening}
use Rattle.cedar_expression_machine.specs.machines.Having.{value_beginning}
use Rattle.cedar_expression_machine.specs.machines.Expressions.{with_words, named_extent, guard_beginning, want_act, named_at_end, last_operand}
use Rattle.cedar_expression_machine.specs.machines.Wanting.{record_with, begin_act}
use Rattle.cedar_expression_machine.specs.machines.ExpressionShapes.{FrameShape, RelationShape, stack_shape, relation_shape}
use Rattle.cedar_expression_machine.specs.machines.ExpressionPlans.{may_follow, begin_plan, operand_plan, guard_plan, key_plan, if_plan}
use Rattle.cedar_expression_machine.specs.declared.expression.state.Act.TheVariants as act
use Rattle.cedar_expression_machine.specs.declared.expression.state.StartAct.{StartAct}
use Rattle.cedar_expression_machine.specs.declared.expression.state.Key.{Key}
use Rattle.cedar_expression_machine.specs.declared.expression.state.FollowSet.TheVariants as follow_set
use Rattle.cedar_expression_machine.specs.declared.expression.state.StartSymbol.{StartSymbol}
use Rattle.cedar_expression_machine.proofs.expressions.Stepping.{planned, begin_as_operand}
use Rattle.cedar_expression_machine.proofs.expressions.complete.Runs.{none_some, at, Setting, from, run, run-none, token, spot_of, StandsAt, is_first}
use Rattle.cedar_expression_machine.proofs.expressions.complete.Words.{closed, in_words, WordsAt, words_run, word_by, words_end_so, reduced}

abbrev pub if_path : {src : List ℕ} → Setting src → Spot → Spanned Name
if_path {src = src} c p = closed (one kind.If p) (name_of [] (placed src (one kind.If p) ident.If))

abbrev pub IfAt : {src : List ℕ} → Setting src → List Frame → PendingOperators → OperandPlace → Spot → Type 0
IfAt c st lv pl p = WordsAt c st lv pl no_signs (one kind.If p) (named_as.path (if_path c p))

pub if_runs : {src : List ℕ} (c : Setting src) (st : List Frame) (lv : PendingOperators) (pl : OperandPlace) (p : Spot) → IfAt c st lv pl p
if_runs c st lv pl p = words_run c st lv pl no_signs (one kind.If p) (named_as.path (if_path c p)) (a_path (one_word (any p refl)))

-- right of `has`

pub if_stands : {src : List ℕ} (c : Setting src) (st : List Frame) (lv : PendingOperators) (p : Spot) (h : IfAt c st lv place.Has p) → StandsAt c st lv (mode.Word place.Has no_signs h.last) (if_operand src (Some (at p)))
if_stands {src = src} c st lv p h = record {
  behind = λ t j. words_end_so c st lv place.Has no_signs h.last (named_as.path (if_path c p)) t j h.ends
      ∙ reduced c st lv place.Has no_signs h.last (named_as.path (if_path c p)) t (may_follow (stack_shape st) (relation_shape lv.relation) follow_set.If (follow_class t.kind)) (follow_class t.kind);
  ends = ap (λ o. with_words o (λ x. named_at_end src place.Has no_signs x)) h.ends;
}

-- as a key, in a record that has none

abbrev pub no_key : Record → Record
no_key f = record_with f.outer f.signs f.opened f.items None

abbrev pub with_key : Record → Key → Record
with_key f k = record_with f.outer f.signs f.opened f.items (Some k)

pub if_key_runs : {src : List ℕ} (c : Setting src) (st : List Frame) (f : Record) (lv : PendingOperators) (p q : Spot) (h : IfAt c (frame.Record (no_key f) ∷ st) lv place.Key p) →
    run c (in_words (frame.Record (no_key f) ∷ st) lv place.Key no_signs h.last) (one kind.Colon q) ≡ Some (value_beginning st (no_key f) (if_key src (Some (at p))) (Some (at p)) (at q))
if_key_runs c st f lv p q h = words_end_so c (frame.Record (no_key f) ∷ st) lv place.Key no_signs h.last (named_as.path (if_path c p)) (token kind.Colon q) refl h.ends

-- as the beginning of a conditional

abbrev pub begins_guard : TokenKind → Bool
begins_guard kind.ColonColon = false
begins_guard kind.Colon = false
begins_guard _ = true

is_no_join : (k : TokenKind) → begins_guard k ≡ true → joins_words k ≡ false
is_no_join kind.ColonColon e = absurd (cc)
is_no_join _ e = refl

is_no_key : (st : List FrameShape) (k : TokenKind) → begins_guard k ≡ true → key_plan st k ≡ guard_plan k
is_no_key st kind.Colon e = absurd (cc)
is_no_key st _ e = refl

if_begins : (w : StartSymbol) (st : List FrameShape) (l : RelationShape) (k : TokenKind) (pl : OperandPlace) → is_first pl ≡ true → begins_guard k ≡ true → if_plan w st l pl k ≡ guard_plan k
if_begins w st l k place.Expr e f = refl
if_begins w st l k place.Item e f = refl
if_begins w st l k place.Key e f = is_no_key st k f
if_begins w st l k place.Has e f = absurd (cc)
if_begins w st l k place.Operand e f = absurd (cc)
if_begins w st l k place.Primary e f = absurd (cc)

guarded : {src : List ℕ} (c : Setting src) (st : List Frame) (lv : PendingOperators) (pl : OperandPlace) (s : WordsState) (x : NameOrEntity) (t : Lexeme) (o : Option StartAct) →
    planned (option_image (λ b. act.Guard b) o) (λ a. word_by c st lv pl no_signs s (Some x) a t) ≡ planned o (λ b. guard_beginning src c.names st lv (named_extent x) b t)
guarded c st lv pl s x t (Some b) = refl
guarded c st lv pl s x t None = refl

begun_as : {src : List ℕ} (c : Setting src) (st : List Frame) (lv : PendingOperators) (pl : OperandPlace) (sg : Signs) (t : Lexeme) (o : Option StartAct) →
    planned (option_image (λ b. act.Begin b) o) (λ a. want_act src c.names st lv pl sg a t) ≡ planned o (λ b. begin_act src c.names st lv pl sg b t)
begun_as c st lv pl sg t (Some b) = refl
begun_as c st lv pl sg t None = refl

-- what an expression begins with is no colon
first_of_guard : {src : List ℕ} (c : Setting src) (st : List Frame) (bs : List Branch) (p : Spot) (ts : List Lexeme) (s : State) (k : TokenKind) →
    run c (from c (Some (opening st bs place.Expr)) (token k p)) ts ≡ Some s → begins_guard k ≡ true
first_of_guard c st bs p ts s kind.ColonColon e = absurd (none_some refl (sym (run-none c ts) ∙ e))
first_of_guard c st bs p ts s kind.Colon e = absurd (none_some refl (sym (run-none c ts) ∙ e))
first_of_guard c st bs p ts s _ e = refl

abbrev pub guard_frame : List Branch → Spot → Frame
guard_frame bs p = frame.Guard record { branches = bs; opened = Some (at p) }

abbrev end_of : {src : List ℕ} → Setting src → Option State → Option Operand
end_of c None = None
end_of {src = src} c (Some s) = last_operand src c.names [] s.mode

guard_on : {src : List ℕ} (c : Setting src) (st : List Frame) (lv : PendingOperators) (pl : OperandPlace) (p : Spot) (h : IfAt c st lv pl p) (t : Lexeme) → is_first pl ≡ true → begins_guard t.kind ≡ true →
    from c (in_words st lv pl no_signs h.last) t ≡ from c (Some (opening (guard_frame lv.branches p ∷ st) [] place.Expr)) t
guard_on {src = src} c st lv pl p h t e f =
    words_end_so c st lv pl no_signs h.last (named_as.path (if_path c p)) t (is_no_join t.kind f) h.ends
    ∙ ap (λ o. planned o (λ a. word_by c st lv pl no_signs h.last (Some (named_as.path (if_path c p))) a t)) (if_begins c.symbol (stack_shape st) (relation_shape lv.relation) t.kind pl e f)
    ∙ guarded c st lv pl h.last (named_as.path (if_path c p)) t (begin_plan t.kind)
    ∙ ap (λ o. planned o (λ b. guard_beginning src c.names st lv (Some (at p)) b t)) (sym (begin_as_operand (stack_shape (guard_frame lv.branches p ∷ st)) (start_class t.kind)))
    ∙ sym (begun_as c (guard_frame lv.branches p ∷ st) (fresh []) place.Expr no_signs t (operand_plan (stack_shape (guard_frame lv.branches p ∷ st)) place.Expr None t.kind))

-- the tokens of a guard go on behind `if` as they do where it begins
pub guard_runs : {src : List ℕ} (c : Setting src) (st : List Frame) (lv : PendingOperators) (pl : OperandPlace) (p : Spot) (h : IfAt c st lv pl p) → is_first pl ≡ true → (ts : List Lexeme) (st' : List Frame) (lv' : PendingOperators) (md : OperandMode) (m : Operand) →
    StandsAt c st' lv' md m → run c (Some (opening (guard_frame lv.branches p ∷ st) [] place.Expr)) ts ≡ Some (state st' lv' md) → run c (in_words st lv pl no_signs h.last) ts ≡ Some (state st' lv' md)
guard_runs c st lv pl p h e [] st' lv' md m g r = absurd (none_some refl (ap (λ o. end_of c o) r ∙ g.ends))
guard_runs c st lv pl p h e (t ∷ ts) st' lv' md m g r =
    let f = first_of_guard c (guard_frame lv.branches p ∷ st) [] (spot_of t) ts (state st' lv' md) t.kind r in
    ap (λ o. run c o ts) (guard_on c st lv pl p h t e f) ∙ r

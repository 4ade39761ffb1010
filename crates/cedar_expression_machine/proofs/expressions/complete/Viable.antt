-- From each state some more tokens come to a tree.
use Rattle.std.proofs.Common.{◌≡◌, ℕ, List, [], ◌∷◌, ◌++◌, Some, false, refl, ◌∙◌, ap, Option, None}
use Rattle.cedar_lexer.specs.Token.{Lexeme}
use Rattle.cedar_lexer.specs.declared.token.TokenKind.{TokenKind}
use Rattle.cedar_lexer.specs.declared.token.TokenKind.TheVariants as kind
use Rattle.cedar_syntax.specs.declared.cst.Primary.TheVariants as primary
use Rattle.cedar_expression_machine.specs.machines.Named.{NameOrEntity, ReadsNamed, joins_words, IsWords}
use Rattle.cedar_expression_machine.specs.machines.Named as named_as
use Rattle.cedar_expression_machine.specs.declared.words.state.WordsState.{WordsState}
use Rattle.cedar_expression_machine.specs.declared.expression.state.PendingOperators.{PendingOperators}
use Rattle.cedar_expression_machine.specs.declared.expression.state.Signs.{Signs}
use Rattle.cedar_expression_machine.specs.declared.expression.state.Operand.{Operand}
use Rattle.cedar_expression_machine.specs.declared.expression.state.Frame.{Frame}
use Rattle.cedar_expression_machine.specs.declared.expression.state.Frame.TheVariants as frame
use Rattle.cedar_expression_machine.specs.declared.expression.state.OperandPlace.{OperandPlace}
use Rattle.cedar_expression_machine.specs.declared.expression.state.OperandMode.{OperandMode}
use Rattle.cedar_expression_machine.specs.declared.expression.state.OperandMode.TheVariants as mode
use Rattle.cedar_expression_machine.specs.declared.expression.state.State.{State}
use Rattle.cedar_expression_machine.specs.declared.expression.state.StartSymbol.TheVariants as form
use Rattle.cedar_expression_machine.specs.declared.expression.state.SingleWord.TheVariants as single
use Rattle.cedar_syntax.specs.tokens.Tokens.{Spot, one}
use Rattle.cedar_grammar.specs.machines.Machine.{machine_of, Completed, option_image}
use Rattle.cedar_expression_machine.specs.machines.Closing.{spanned_tree, operand_of, whole, add_at}
use Rattle.cedar_expression_machine.specs.machines.ExpressionStates.{state, has_operand}
use Rattle.cedar_expression_machine.specs.machines.Expressions.{single_word, single_word_is_if, single_word_operand, name_at, last_operand, expr_at_end, sum_at_end, primary_at_end, expression_reader, sum_reader, primary_reader}
use Rattle.cedar_expression_machine.specs.machines.ExpressionShapes.{WordOutline}
use Rattle.cedar_expression_machine.specs.machines.Wanting.{record_with}
use Rattle.cedar_expression_machine.specs.declared.expression.state.Key.{Key}
use Rattle.cedar_syntax.specs.declared.cst.RecInit.{RecInit}
use Rattle.cedar_syntax.specs.trees.Trees.{Cell}
use Rattle.cedar_grammar.specs.declared.reading.extent.Extent.{Extent}
use Rattle.cedar_expression_machine.proofs.expressions.Held.{Held}
use Rattle.cedar_expression_machine.proofs.expressions.Stepping.{Names, takes_so}
use Rattle.cedar_expression_machine.proofs.expressions.complete.Runs.{having, Setting, run, two, token, StandsAt, stands, met}
use Rattle.cedar_expression_machine.proofs.expressions.complete.Words.{held, words_stand, further_word}
use Rattle.cedar_expression_machine.proofs.expressions.complete.Complete.{goes_as, expression_setting, sum_setting, primary_setting}

-- some more tokens come to an operand with no bracket open
record Ends {src : List ℕ} (c : Setting src) (s : State) : Type 0 where
  more : List Lexeme
  levels : PendingOperators
  md : OperandMode
  last : Operand
  goes : run c (Some s) more ≡ Some (state [] levels md)
  ends : last_operand src c.names [] md ≡ Some last

after : {src : List ℕ} (c : Setting src) (s r : State) (ts : List Lexeme) → run c (Some s) ts ≡ Some r → Ends c r → Ends c s
after c s r ts e h = record { more = ts ++ h.more; levels = h.levels; md = h.md; last = h.last; goes = two c (Some s) (Some r) _ ts h.more e h.goes; ends = h.ends }

-- the tokens of it may stand anywhere
abbrev spot : Spot
spot = record { start = 0; end = 0; text = [] }

-- an operand that stands wherever one may
abbrev operand : List Lexeme
operand = one kind.StringLit spot

-- behind an operand a token and more
then : {src : List ℕ} (c : Setting src) (st : List Frame) (lv : PendingOperators) (md : OperandMode) (m : Operand) (k : TokenKind) (ts : List Lexeme) → StandsAt c st lv md m → joins_words k ≡ false →
    run c (Some (state st lv md)) (one k spot ++ ts) ≡ run c ((having c.symbol src st lv m (token k spot))) ts
then c st lv md m k ts h e = ap (λ o. run c o ts) (met c st lv md m k spot h e)

-- a record is closed, where the pair that is begun has its key and where it has none
record_ends : {src : List ℕ} (c : Setting src) (st : List Frame) (w : PendingOperators) (sg : Signs) (e : Extent) (xs : List (Cell RecInit)) (o : Option Key) (lv : PendingOperators) (md : OperandMode) (m : Operand) → ((n : Operand) → Ends c (has_operand st w n)) →
    StandsAt c (frame.Record (record_with w sg e xs o) ∷ st) lv md m → Ends c (state (frame.Record (record_with w sg e xs o) ∷ st) lv md)
record_ends c st w sg e xs None lv md m k h =
    after c _ _ (one kind.Colon spot ++ (operand ++ one kind.CloseBrace spot)) (then c (frame.Record (record_with w sg e xs None) ∷ st) lv md m kind.Colon (operand ++ one kind.CloseBrace spot) h refl) (k _)
record_ends c st w sg e xs (Some y) lv md m k h = after c _ _ (one kind.CloseBrace spot) (then c (frame.Record (record_with w sg e xs (Some y)) ∷ st) lv md m kind.CloseBrace [] h refl) (k _)

-- what is open is closed
stands_ends : {src : List ℕ} (c : Setting src) (st : List Frame) (lv : PendingOperators) (md : OperandMode) (m : Operand) → StandsAt c st lv md m → Ends c (state st lv md)
stands_ends c [] lv md m h = record { more = []; levels = lv; md = md; last = m; goes = refl; ends = h.ends }
stands_ends c (frame.Paren f ∷ st) lv md m h =
    after c _ _ (one kind.CloseParen spot) (then c (frame.Paren f ∷ st) lv md m kind.CloseParen [] h refl) (stands_ends c st f.outer (mode.Have _ None) _ (stands c st f.outer _))
stands_ends c (frame.Set f ∷ st) lv md m h =
    after c _ _ (one kind.CloseBracket spot) (then c (frame.Set f ∷ st) lv md m kind.CloseBracket [] h refl) (stands_ends c st f.outer (mode.Have _ None) _ (stands c st f.outer _))
stands_ends c (frame.Call f ∷ st) lv md m h =
    after c _ _ (one kind.CloseParen spot) (then c (frame.Call f ∷ st) lv md m kind.CloseParen [] h refl) (stands_ends c st f.outer (mode.Have _ None) _ (stands c st f.outer _))
stands_ends c (frame.Index f ∷ st) lv md m h =
    after c _ _ (one kind.CloseBracket spot) (then c (frame.Index f ∷ st) lv md m kind.CloseBracket [] h refl) (stands_ends c st f.outer (mode.Have _ None) _ (stands c st f.outer _))
stands_ends c (frame.Record f ∷ st) lv md m h = record_ends c st f.outer f.signs f.opened f.items f.key lv md m (λ n. stands_ends c st f.outer (mode.Have n None) n (stands c st f.outer n)) h
stands_ends c (frame.Guard f ∷ st) lv md m h =
    after c _ _ (one kind.Then spot ++ (operand ++ one kind.Else spot ++ operand)) (then c (frame.Guard f ∷ st) lv md m kind.Then (operand ++ one kind.Else spot ++ operand) h refl)
    (stands_ends c st _ (mode.Have _ None) _ (stands c st _ _))
stands_ends c (frame.Then f ∷ st) lv md m h =
    after c _ _ (one kind.Else spot ++ operand) (then c (frame.Then f ∷ st) lv md m kind.Else operand h refl) (stands_ends c st _ (mode.Have _ None) _ (stands c st _ _))

-- words can always come to an operand: a path goes on to one of more than one word, which is never
-- `if` alone

words_end : {src : List ℕ} (c : Setting src) (st : List Frame) (lv : PendingOperators) (pl : OperandPlace) (sg : Signs) (s : WordsState) (x : NameOrEntity) → c.names.finish src s ≡ Some x → Ends c (state st lv (mode.Word pl sg s))
words_end {src = src} c st lv pl sg s (named_as.entity x) e =
    stands_ends c st lv (mode.Word pl sg s) _ (words_stand c st lv pl sg s (named_as.entity x) (operand_of src sg (spanned_tree x.extent (primary.Ref x.tree))) e refl refl refl)
words_end {src = src} c st lv pl sg s (named_as.path x) e =
    let l = c.words.longer s x spot spot e in
    let f : single_word l.longer.tree.path l.longer.tree.name ≡ single.Name = ap (λ q. single_word q l.longer.tree.name) l.joined ∙ further_word l.before l.word l.longer.tree.name in
    after c _ (state st lv (mode.Word pl sg l.last)) (one kind.ColonColon spot ++ one kind.Identifier spot) (held c st lv pl sg (one kind.ColonColon spot ++ one kind.Identifier spot) s l.last l.goes)
    (stands_ends c st lv (mode.Word pl sg l.last) _
    (words_stand c st lv pl sg l.last (named_as.path l.longer) (operand_of src sg (name_at src l.longer)) l.ends (ap (λ a. single_word_is_if a) f) (ap (λ a. single_word_operand src sg l.longer a) f) refl))

-- each mode

mode_ends : {src : List ℕ} (c : Setting src) (st : List Frame) (lv : PendingOperators) (md : OperandMode) → Ends c (state st lv md)
mode_ends c st lv (mode.Want pl sg) = after c _ _ operand refl (stands_ends c st lv (mode.Have _ None) _ (stands c st lv _))
mode_ends c st lv (mode.Word pl sg s) =
    let v = c.held.parser.viable s in
    after c _ (state st lv (mode.Word pl sg v.last)) v.more (held c st lv pl sg v.more s v.last v.goes) (words_end c st lv pl sg v.last v.tree v.ends)
mode_ends c st lv (mode.Have m (Some d)) = after c _ _ (one kind.Identifier spot) refl (stands_ends c st lv (mode.Have _ None) _ (stands c st lv _))
mode_ends c st lv (mode.Have m None) = stands_ends c st lv (mode.Have m None) m (stands c st lv m)

-- the three machines

pub expressions_viable : {W K : Type 0} (src : List ℕ) (names : Names) (n : WordOutline W K) (f : WordsState → W) (g : NameOrEntity → K) → Held src names n f g → IsWords (machine_of src names) → (s : State) → Completed (machine_of src (expression_reader names n f)) s
expressions_viable src names n f g d i s =
    let c = expression_setting src names n f g d i in
    let h = mode_ends c s.stack s.levels s.mode in
    record {
      more = h.more;
      last = state [] h.levels h.md;
      tree = whole src h.levels h.last;
      goes = goes_as c (machine_of src (expression_reader names n f)) (takes_so form.Expr src names n f (λ src s. expr_at_end src names s)) (Some s) h.more ∙ h.goes;
      ends = ap (λ o. option_image (λ m. whole src h.levels m) o) h.ends;
    }

pub sums_viable : {W K : Type 0} (src : List ℕ) (names : Names) (n : WordOutline W K) (f : WordsState → W) (g : NameOrEntity → K) → Held src names n f g → IsWords (machine_of src names) → (s : State) → Completed (machine_of src (sum_reader names n f)) s
sums_viable src names n f g d i s =
    let c = sum_setting src names n f g d i in
    let h = mode_ends c s.stack s.levels s.mode in
    record {
      more = h.more;
      last = state [] h.levels h.md;
      tree = add_at src h.levels h.last;
      goes = goes_as c (machine_of src (sum_reader names n f)) (takes_so form.Sum src names n f (λ src s. sum_at_end src names s)) (Some s) h.more ∙ h.goes;
      ends = ap (λ o. option_image (λ m. add_at src h.levels m) o) h.ends;
    }

pub primaries_viable : {W K : Type 0} (src : List ℕ) (names : Names) (n : WordOutline W K) (f : WordsState → W) (g : NameOrEntity → K) → Held src names n f g → IsWords (machine_of src names) → (s : State) → Completed (machine_of src (primary_reader names n f)) s
primaries_viable src names n f g d i s =
    let c = primary_setting src names n f g d i in
    let h = mode_ends c s.stack s.levels s.mode in
    record {
      more = h.more;
      last = state [] h.levels h.md;
      tree = h.last.member.item;
      goes = goes_as c (machine_of src (primary_reader names n f)) (takes_so form.Primary src names n f (λ src s. primary_at_end src names s)) (Some s) h.more ∙ h.goes;
      ends = ap (λ o. option_image (λ m. m.member.item) o) h.ends;
    }

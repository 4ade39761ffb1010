-- How expressions, sums and primaries are read: what is done with a token that is planned, and the
-- tree at the end. `names` is how words are read, `n` their outline, and `f` their shape.
use Rattle.std.specs.Prelude.{ℕ, Bool, true, false, List, [], ◌∷◌, Option, Some, None, cond}
use Rattle.cedar_lexer.specs.Token.{Lexeme}
use Rattle.cedar_syntax.specs.declared.cst.Expr.{Expr}
use Rattle.cedar_syntax.specs.declared.cst.Add.{Add}
use Rattle.cedar_syntax.specs.declared.cst.Primary.{Primary}
use Rattle.cedar_syntax.specs.declared.cst.Primary.TheVariants as primary
use Rattle.cedar_syntax.specs.declared.cst.Literal.TheVariants as literal
use Rattle.cedar_syntax.specs.declared.cst.Ident.{Ident}
use Rattle.cedar_syntax.specs.declared.cst.Ident.TheVariants as ident
use Rattle.cedar_syntax.specs.declared.cst.Name.{Name}
use Rattle.cedar_expression_machine.specs.machines.Named.{NameOrEntity}
use Rattle.cedar_expression_machine.specs.machines.Named as named
use Rattle.cedar_expression_machine.specs.declared.words.state.WordsState.{WordsState}
use Rattle.cedar_expression_machine.specs.declared.words.state.WordsAct.{WordsAct}
use Rattle.cedar_expression_machine.specs.declared.expression.state.Act.{Act}
use Rattle.cedar_expression_machine.specs.declared.expression.state.Act.TheVariants as act
use Rattle.cedar_expression_machine.specs.declared.expression.state.StartAct.{StartAct}
use Rattle.cedar_expression_machine.specs.declared.expression.state.Spanned.{Spanned}
use Rattle.cedar_expression_machine.specs.declared.expression.state.PendingOperators.{PendingOperators}
use Rattle.cedar_expression_machine.specs.declared.expression.state.Signs.{Signs}
use Rattle.cedar_expression_machine.specs.declared.expression.state.Operand.{Operand}
use Rattle.cedar_expression_machine.specs.declared.expression.state.Frame.{Frame}
use Rattle.cedar_expression_machine.specs.declared.expression.state.Frame.TheVariants as frame
use Rattle.cedar_expression_machine.specs.declared.expression.state.OperandPlace.{OperandPlace}
use Rattle.cedar_expression_machine.specs.declared.expression.state.OperandPlace.TheVariants as place
use Rattle.cedar_expression_machine.specs.declared.expression.state.OperandMode.{OperandMode}
use Rattle.cedar_expression_machine.specs.declared.expression.state.OperandMode.TheVariants as mode
use Rattle.cedar_expression_machine.specs.declared.expression.state.State.{State}
use Rattle.cedar_expression_machine.specs.declared.expression.state.StartSymbol.{StartSymbol}
use Rattle.cedar_expression_machine.specs.declared.expression.state.StartSymbol.TheVariants as form
use Rattle.cedar_expression_machine.specs.declared.expression.state.SingleWord.{SingleWord}
use Rattle.cedar_expression_machine.specs.declared.expression.state.SingleWord.TheVariants as single
use Rattle.cedar_grammar.specs.declared.reading.extent.Extent.{Extent}
use Rattle.cedar_grammar.specs.grammar.Place.{extent_of}
use Rattle.cedar_syntax.specs.tokens.Tokens.{any_of}
use Rattle.cedar_syntax.specs.trees.Trees.{Cell}
use Rattle.cedar_grammar.specs.machines.Machine.{Reader, option_image}
use Rattle.cedar_expression_machine.specs.machines.Closing.{spanned_tree, node_of, add_at, whole, fresh, no_signs, operand_of, if_operand, if_key}
use Rattle.cedar_expression_machine.specs.machines.ExpressionStates.{opening}
use Rattle.cedar_expression_machine.specs.machines.Wanting.{literal_at, word_held, begin_act}
use Rattle.cedar_expression_machine.specs.machines.Having.{field_reading, value_beginning, follow_act}
use Rattle.cedar_expression_machine.specs.machines.ExpressionShapes.{start_place, WordOutline, shape_of}
use Rattle.cedar_expression_machine.specs.machines.ExpressionPlans.{if_ends, shape_plan, shape_ends}

-- behind words

-- what one identifier alone is
abbrev pub word_alone : Option Ident → SingleWord
word_alone (Some ident.True) = single.True
word_alone (Some ident.False) = single.False
word_alone (Some ident.If) = single.If
word_alone _ = single.Name

abbrev pub single_word : List (Cell Ident) → Cell Ident → SingleWord
single_word [] x = word_alone x.node
single_word (y ∷ ys) x = single.Name

abbrev pub name_at : List ℕ → Spanned Name → Spanned Primary
name_at src x = spanned_tree x.extent (primary.Name (node_of src x))

-- the operand that words of one identifier are: `if` alone is one right of `has`
abbrev pub single_word_operand : List ℕ → Signs → Spanned Name → SingleWord → Operand
single_word_operand src sg x single.True = operand_of src sg (literal_at src x.extent literal.True)
single_word_operand src sg x single.False =
    operand_of src sg (literal_at src x.extent literal.False)
single_word_operand src sg x single.If = if_operand src x.extent
single_word_operand src sg x single.Name = operand_of src sg (name_at src x)

-- the operand that words are
abbrev pub named_operand : List ℕ → Signs → NameOrEntity → Operand
named_operand src sg (named.path x) =
    single_word_operand src sg x (single_word x.tree.path x.tree.name)
named_operand src sg (named.entity x) =
    operand_of src sg (spanned_tree x.extent (primary.Ref x.tree))

abbrev pub named_extent : NameOrEntity → Option Extent
named_extent (named.path x) = x.extent
named_extent (named.entity x) = x.extent

-- what is done with words that have ended, if they have
abbrev pub with_words : {T : Type 0} → Option NameOrEntity → (NameOrEntity → Option T) → Option T
with_words None g = None
with_words (Some x) g = g x

-- words have ended as `if`: the guard of a conditional begins with the token behind it
abbrev pub guard_beginning : List ℕ → Reader WordsState WordsAct NameOrEntity → List Frame
    → PendingOperators → Option Extent → StartAct → Lexeme → Option State
guard_beginning src names st lv l b t = begin_act src names
    (frame.Guard record { branches = lv.branches; opened = l } ∷ st)
    (fresh []) place.Expr no_signs b t

-- `if` as a key, and its colon
abbrev pub if_key_reading : List ℕ → List Frame → Option Extent → Extent → Option State
if_key_reading src (frame.Record f ∷ st) l e = Some (value_beginning st f (if_key src l) l e)
if_key_reading src _ l e = None

-- ---- what is done with a token, by the mode in which it is planned

abbrev pub want_act : List ℕ → Reader WordsState WordsAct NameOrEntity → List Frame
    → PendingOperators → OperandPlace → Signs → Act → Lexeme → Option State
want_act src names st lv p sg (act.Begin b) t = begin_act src names st lv p sg b t
want_act src names st lv p sg _ t = None

abbrev pub word_act : List ℕ → Reader WordsState WordsAct NameOrEntity → List Frame
    → PendingOperators → OperandPlace → Signs → WordsState → Act → Lexeme → Option State
word_act src names st lv p sg w (act.Words a) t =
    option_image (λ v. word_held st lv p sg v) (names.act src w a t)
word_act src names st lv p sg w (act.Reduce o) t = with_words (names.finish src w)
    (λ x. follow_act src st lv (named_operand src sg x) o (extent_of t))
word_act src names st lv p sg w (act.Guard b) t = with_words (names.finish src w)
    (λ x. guard_beginning src names st lv (named_extent x) b t)
word_act src names st lv p sg w act.Key t = with_words (names.finish src w)
    (λ x. if_key_reading src st (named_extent x) (extent_of t))
word_act src names st lv p sg w _ t = None

abbrev pub dot_act : List ℕ → List Frame → PendingOperators → Operand → Extent → Act → Lexeme
    → Option State
dot_act src st lv m d act.Field t =
    field_reading src st lv m d (any_of t.kind t.text) (extent_of t)
dot_act src st lv m d _ t = None

abbrev pub have_act : List ℕ → List Frame → PendingOperators → Operand → Act → Lexeme
    → Option State
have_act src st lv m (act.Follow o) t = follow_act src st lv m o (extent_of t)
have_act src st lv m _ t = None

abbrev pub mode_act : List ℕ → Reader WordsState WordsAct NameOrEntity → List Frame
    → PendingOperators → OperandMode → Act → Lexeme → Option State
mode_act src names st lv (mode.Want p sg) a t = want_act src names st lv p sg a t
mode_act src names st lv (mode.Word p sg w) a t = word_act src names st lv p sg w a t
mode_act src names st lv (mode.Have m (Some d)) a t = dot_act src st lv m d a t
mode_act src names st lv (mode.Have m None) a t = have_act src st lv m a t

abbrev pub expression_act : List ℕ → Reader WordsState WordsAct NameOrEntity → State → Act
    → Lexeme → Option State
expression_act src names s a t = mode_act src names s.stack s.levels s.mode a t

-- ---- the end

-- the word `if` alone, which is an operand right of `has` only

abbrev pub single_word_is_if : SingleWord → Bool
single_word_is_if single.True = false
single_word_is_if single.False = false
single_word_is_if single.If = true
single_word_is_if single.Name = false

abbrev pub named_is_if : NameOrEntity → Bool
named_is_if (named.path x) = single_word_is_if (single_word x.tree.path x.tree.name)
named_is_if (named.entity x) = false

-- the last operand, if no bracket is open and nothing more has to come
abbrev pub named_at_end : List ℕ → OperandPlace → Signs → NameOrEntity → Option Operand
named_at_end src p sg x = cond (if_ends p (named_is_if x)) (Some (named_operand src sg x)) None

abbrev pub last_operand : List ℕ → Reader WordsState WordsAct NameOrEntity → List Frame
    → OperandMode → Option Operand
last_operand src names [] (mode.Want p sg) = None
last_operand src names [] (mode.Word p sg w) =
    with_words (names.finish src w) (λ x. named_at_end src p sg x)
last_operand src names [] (mode.Have m (Some d)) = None
last_operand src names [] (mode.Have m None) = Some m
last_operand src names (f ∷ st) m = None

abbrev pub expr_at_end : List ℕ → Reader WordsState WordsAct NameOrEntity → State
    → Option (Spanned Expr)
expr_at_end src names s =
    option_image (λ m. whole src s.levels m) (last_operand src names s.stack s.mode)

abbrev pub sum_at_end : List ℕ → Reader WordsState WordsAct NameOrEntity → State
    → Option (Spanned Add)
sum_at_end src names s =
    option_image (λ m. add_at src s.levels m) (last_operand src names s.stack s.mode)

abbrev pub primary_at_end : List ℕ → Reader WordsState WordsAct NameOrEntity → State
    → Option (Cell Primary)
primary_at_end src names s =
    option_image (λ m. m.member.item) (last_operand src names s.stack s.mode)

-- ---- the readers

-- by the tree that is wanted of the whole, and how it is made at the end
abbrev pub symbol_reader : {W K T : Type 0} → StartSymbol → Reader WordsState WordsAct NameOrEntity
    → WordOutline W K → (WordsState → W) → (List ℕ → State → Option T) → Reader State Act T
symbol_reader w names n f tree = record {
  start = opening [] [] (start_place w);
  plan = λ s k. shape_plan w n (shape_of f s) k;
  act = λ src s a t. expression_act src names s a t;
  ends = λ s. shape_ends n (shape_of f s);
  finish = tree;
}

abbrev pub expression_reader : {W K : Type 0} → Reader WordsState WordsAct NameOrEntity
    → WordOutline W K → (WordsState → W) → Reader State Act (Spanned Expr)
expression_reader names n f = symbol_reader form.Expr names n f (λ src s. expr_at_end src names s)

abbrev pub sum_reader : {W K : Type 0} → Reader WordsState WordsAct NameOrEntity
    → WordOutline W K → (WordsState → W) → Reader State Act (Spanned Add)
sum_reader names n f = symbol_reader form.Sum names n f (λ src s. sum_at_end src names s)

abbrev pub primary_reader : {W K : Type 0} → Reader WordsState WordsAct NameOrEntity
    → WordOutline W K → (WordsState → W) → Reader State Act (Cell Primary)
primary_reader names n f =
    symbol_reader form.Primary names n f (λ src s. primary_at_end src names s)

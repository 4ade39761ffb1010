-- The machine of expressions where an operand is wanted: literals, signs, open brackets, and lists
-- that end before an item.
use Rattle.std.specs.Prelude.{ℕ, Bool, true, false, List, [], ◌∷◌, Option, Some, None}
use Rattle.cedar_lexer.specs.Token.{Lexeme}
use Rattle.cedar_syntax.specs.declared.cst.Expr.{Expr}
use Rattle.cedar_syntax.specs.declared.cst.NegOp.{NegOp}
use Rattle.cedar_syntax.specs.declared.cst.MemAccess.TheVariants as access
use Rattle.cedar_syntax.specs.declared.cst.Primary.{Primary}
use Rattle.cedar_syntax.specs.declared.cst.Primary.TheVariants as primary
use Rattle.cedar_syntax.specs.declared.cst.Literal.{Literal}
use Rattle.cedar_syntax.specs.declared.cst.Literal.TheVariants as literal
use Rattle.cedar_syntax.specs.declared.cst.Str.TheVariants as str
use Rattle.cedar_syntax.specs.declared.cst.Slot.{Slot}
use Rattle.cedar_syntax.specs.declared.cst.Slot.TheVariants as slot
use Rattle.cedar_syntax.specs.declared.cst.RecInit.{RecInit}
use Rattle.cedar_grammar.specs.declared.reading.class.Sign.{Sign}
use Rattle.cedar_grammar.specs.declared.reading.class.SlotToken.{SlotToken}
use Rattle.cedar_grammar.specs.declared.reading.class.SlotToken.TheVariants as slot_token
use Rattle.cedar_expression_machine.specs.declared.expression.state.StartAct.{StartAct}
use Rattle.cedar_expression_machine.specs.declared.expression.state.StartAct.TheVariants as begin
use Rattle.cedar_expression_machine.specs.declared.words.state.WordsAct.{WordsAct}
use Rattle.cedar_expression_machine.specs.machines.Named.{NameOrEntity}
use Rattle.cedar_expression_machine.specs.declared.words.state.WordsState.{WordsState}
use Rattle.cedar_expression_machine.specs.declared.expression.state.Spanned.{Spanned}
use Rattle.cedar_expression_machine.specs.declared.expression.state.PendingOperators.{PendingOperators}
use Rattle.cedar_expression_machine.specs.declared.expression.state.Signs.{Signs}
use Rattle.cedar_expression_machine.specs.declared.expression.state.Set.{Set}
use Rattle.cedar_expression_machine.specs.declared.expression.state.Call.{Call}
use Rattle.cedar_expression_machine.specs.declared.expression.state.Key.{Key}
use Rattle.cedar_expression_machine.specs.declared.expression.state.Record.{Record}
use Rattle.cedar_expression_machine.specs.declared.expression.state.Frame.{Frame}
use Rattle.cedar_expression_machine.specs.declared.expression.state.Frame.TheVariants as frame
use Rattle.cedar_expression_machine.specs.declared.expression.state.OperandPlace.{OperandPlace}
use Rattle.cedar_expression_machine.specs.declared.expression.state.OperandPlace.TheVariants as place
use Rattle.cedar_expression_machine.specs.declared.expression.state.OperandMode.TheVariants as mode
use Rattle.cedar_expression_machine.specs.declared.expression.state.State.{State}
use Rattle.cedar_grammar.specs.declared.reading.extent.Extent.{Extent}
use Rattle.cedar_grammar.specs.grammar.Place.{joint_extent, extent_of, node_at}
use Rattle.cedar_syntax.specs.tokens.Tokens.{between_quotes, number_of, fits}
use Rattle.cedar_syntax.specs.trees.Trees.{Cell}
use Rattle.cedar_grammar.specs.machines.Machine.{Reader, option_image}
use Rattle.cedar_expression_machine.specs.machines.Closing.{spanned_tree, signs_of, with_access}
use Rattle.cedar_grammar.specs.machines.Classes.{with_sign}
use Rattle.cedar_expression_machine.specs.machines.ExpressionStates.{state, opening, has_operand, has_primary, around}

-- where an operand is wanted

abbrev pub literal_at : List ℕ → Option Extent → Literal → Spanned Primary
literal_at src e x = spanned_tree e (primary.Literal (node_at src e x))

abbrev pub string_at : List ℕ → Option Extent → List ℕ → Spanned Primary
string_at src e text =
    literal_at src e (literal.Str (node_at src e (str.String (between_quotes text))))

abbrev pub slot_of_token : SlotToken → List ℕ → Slot
slot_of_token slot_token.Principal text = slot.Principal
slot_of_token slot_token.Resource text = slot.Resource
slot_of_token slot_token.Other text = slot.Other text

abbrev pub slot_at : List ℕ → Option Extent → Slot → Spanned Primary
slot_at src e x = spanned_tree e (primary.Slot (node_at src e x))

-- one sign more
abbrev pub after_signs : List Frame → PendingOperators → Option Extent → Option NegOp → Extent
    → Option State
after_signs st lv l None e = None
after_signs st lv l (Some o) e =
    Some (state st lv (mode.Want place.Operand
    (signs_of (Some o) (joint_extent l (Some e)))))

abbrev pub sign_reading : List Frame → PendingOperators → Signs → Sign → Extent → Option State
sign_reading st lv sg s e = after_signs st lv sg.extent (with_sign sg.op s) e

-- open brackets

abbrev pub paren_opening : List Frame → PendingOperators → Signs → Extent → State
paren_opening st lv sg e =
    opening (frame.Paren record { outer = lv; signs = sg; opened = e } ∷ st) [] place.Expr

abbrev pub set_with : PendingOperators → Signs → Extent → List (Cell Expr) → Set
set_with lv sg e xs = record { outer = lv; signs = sg; opened = e; items = xs }

-- a record with these pairs, and the key of the one that is begun
abbrev pub record_with : PendingOperators → Signs → Extent → List (Cell RecInit) → Option Key
    → Record
record_with lv sg e xs k = record { outer = lv; signs = sg; opened = e; items = xs; key = k }

abbrev pub set_opening : List Frame → PendingOperators → Signs → Extent → State
set_opening st lv sg e = opening (frame.Set (set_with lv sg e []) ∷ st) [] place.Item

abbrev pub record_opening : List Frame → PendingOperators → Signs → Extent → State
record_opening st lv sg e =
    opening (frame.Record (record_with lv sg e [] None) ∷ st) [] place.Key

-- a list that ends before an item

abbrev pub set_closing : List ℕ → List Frame → Set → Extent → State
set_closing src st f m =
    has_primary src st f.outer f.signs (spanned_tree (around f.opened m) (primary.EList f.items))

abbrev pub record_closing : List ℕ → List Frame → Record → Extent → State
record_closing src st f m =
    has_primary src st f.outer f.signs (spanned_tree (around f.opened m) (primary.RInits f.items))

abbrev pub call_closing : List ℕ → List Frame → Call → Extent → State
call_closing src st f m = has_operand st f.outer
    (with_access src f.operand (spanned_tree (around f.opened m) (access.Call f.items)))

abbrev pub list_ending : List ℕ → List Frame → Extent → Option State
list_ending src (frame.Set f ∷ st) m = Some (set_closing src st f m)
list_ending src (frame.Call f ∷ st) m = Some (call_closing src st f m)
list_ending src (frame.Record f ∷ st) m = Some (record_closing src st f m)
list_ending src _ m = None

-- the first token of words, which are held from there on

abbrev pub first_act : List ℕ → Reader WordsState WordsAct NameOrEntity → Lexeme
    → Option WordsAct → Option WordsState
first_act src names t None = None
first_act src names t (Some a) = names.act src names.start a t

abbrev pub first_words : List ℕ → Reader WordsState WordsAct NameOrEntity → Lexeme
    → Option WordsState
first_words src names t = first_act src names t (names.plan names.start t.kind)

abbrev pub word_held : List Frame → PendingOperators → OperandPlace → Signs → WordsState → State
word_held st lv p sg w = state st lv (mode.Word p sg w)

-- a number, unless it doesn't fit
abbrev pub number_reading : List ℕ → List Frame → PendingOperators → Signs → Bool → Lexeme
    → Option State
number_reading src st lv sg true t =
    Some (has_primary src st lv sg (literal_at src (Some (extent_of t))
    (literal.Num (number_of t.text))))
number_reading src st lv sg false t = None

-- what is done with a token where an operand is wanted
abbrev pub begin_act : List ℕ → Reader WordsState WordsAct NameOrEntity → List Frame
    → PendingOperators → OperandPlace → Signs → StartAct → Lexeme → Option State
begin_act src names st lv p sg begin.Word t =
    option_image (λ w. word_held st lv p sg w) (first_words src names t)
begin_act src names st lv p sg begin.Number t = number_reading src st lv sg (fits t.text) t
begin_act src names st lv p sg begin.String t =
    Some (has_primary src st lv sg (string_at src (Some (extent_of t)) t.text))
begin_act src names st lv p sg (begin.Slot s) t =
    Some (has_primary src st lv sg (slot_at src (Some (extent_of t)) (slot_of_token s t.text)))
begin_act src names st lv p sg (begin.Sign s) t = sign_reading st lv sg s (extent_of t)
begin_act src names st lv p sg begin.Paren t = Some (paren_opening st lv sg (extent_of t))
begin_act src names st lv p sg begin.Bracket t = Some (set_opening st lv sg (extent_of t))
begin_act src names st lv p sg begin.Brace t = Some (record_opening st lv sg (extent_of t))
begin_act src names st lv p sg (begin.Ends c) t = list_ending src st (extent_of t)

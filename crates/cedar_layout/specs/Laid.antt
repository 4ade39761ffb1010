-- Items with something between them, and the text that they are.
use Rattle.std.specs.Prelude.{◌≡◌, ℕ, Bool, true, false, cond, not, ◌==◌, IsTrue, List, [], ◌∷◌, ◌++◌, codes, replicate, slice_index}
use Rattle.std.specs.List.{AllPass}
use Rattle.std.specs.Char.{is_ascii_digit}
use Rattle.std.specs.Str.{byte}
use Rattle.cedar_lexer.specs.Cut.{is_in_line}
use Rattle.cedar_lexer.specs.Spelling.{is_identifier_part, Spells}
use Rattle.cedar_lexer.specs.Words.{TokenText}
use Rattle.cedar_lexer.specs.declared.token.TokenKind.{TokenKind}
use Rattle.cedar_lexer.specs.declared.token.TokenKind.TheVariants.{Number, StringLit, At, Dot, Comma, Semicolon, Colon, ColonColon, OpenParen, CloseParen, OpenBrace, CloseBrace, OpenBracket, CloseBracket, EqEq, NotEq, Less, LessEq, GreaterEq, Greater, Eq, OrOr, AndAnd, Plus, Minus, Star, Slash, Percent, Bang}
use Rattle.cedar_layout.specs.Pieces.{Item, word, beside, below, SpacedItem, trimmed}

-- what stands before an item: nothing, a space, or a line feed, maybe another one, and spaces
pub data Separator : Type 0 where
  nothing : Separator
  space : Separator
  line : Bool → ℕ → Separator

abbrev pub separator_text : Separator → List ℕ
separator_text nothing = []
separator_text space = 32 ∷ []
separator_text (line blank depth) =
    cond blank (10 ∷ 10 ∷ replicate depth 32) (10 ∷ replicate depth 32)

abbrev pub is_blank_line : Separator → Bool
is_blank_line nothing = false
is_blank_line space = false
is_blank_line (line blank depth) = blank

abbrev pub item_text : Item → List ℕ
item_text (word w) = w.text
item_text (beside c) = c
item_text (below c) = c

pub record LaidItem : Type 0 where
  pub separator : Separator
  pub item : Item

abbrev pub piece_of : LaidItem → SpacedItem
piece_of l = record { blank = is_blank_line l.separator; item = l.item }

abbrev pub pieces_of : List LaidItem → List SpacedItem
pieces_of [] = []
pieces_of (l ∷ ls) = piece_of l ∷ pieces_of ls

-- the items with what stands before each, and then a line feed
abbrev pub written_text : List LaidItem → List ℕ
written_text [] = codes "\n"
written_text (l ∷ ls) = separator_text l.separator ++ (item_text l.item ++ written_text ls)

-- a file has nothing before its first item, and is empty where it has none
abbrev pub file_text : List LaidItem → List ℕ
file_text [] = []
file_text (l ∷ ls) = written_text (l ∷ ls)

-- a token of this kind goes on with this byte, or becomes another one
abbrev pub goes_on : TokenKind → ℕ → Bool
goes_on Number b = is_ascii_digit b
goes_on StringLit b = false
goes_on At b = false
goes_on Dot b = false
goes_on Comma b = false
goes_on Semicolon b = false
goes_on Colon b = b == byte ":"
goes_on ColonColon b = false
goes_on OpenParen b = false
goes_on CloseParen b = false
goes_on OpenBrace b = false
goes_on CloseBrace b = false
goes_on OpenBracket b = false
goes_on CloseBracket b = false
goes_on EqEq b = false
goes_on NotEq b = false
goes_on Less b = b == byte "="
goes_on LessEq b = false
goes_on GreaterEq b = false
goes_on Greater b = b == byte "="
goes_on Eq b = b == byte "="
goes_on OrOr b = false
goes_on AndAnd b = false
goes_on Plus b = false
goes_on Minus b = false
goes_on Star b = false
goes_on Slash b = b == byte "/"
goes_on Percent b = false
goes_on Bang b = b == byte "="
-- a word, a slot or an identifier
goes_on kind b = is_identifier_part b

abbrev pub may_touch : TokenKind → TokenText → Bool
may_touch kind w = not (goes_on kind (slice_index w.text 0))

-- what stood before: nothing yet, a word of this kind, or a comment
pub data Before : Type 0 where
  start : Before
  behind_word : TokenKind → Before
  behind_comment : Before

abbrev pub then_behind : Item → Before
then_behind (word w) = behind_word w.kind
then_behind (beside c) = behind_comment
then_behind (below c) = behind_comment

-- a comment ends its line, and stands on the line of the word before where it is said to; two
-- words that may not touch have something between them; nothing stands before the first item
abbrev pub may_stand : Before → Separator → Item → Bool
may_stand start nothing (word w) = true
may_stand start nothing (below c) = true
may_stand (behind_word kind) nothing (word w) = may_touch kind w
may_stand (behind_word kind) space (word w) = true
may_stand (behind_word kind) space (beside c) = true
may_stand (behind_word kind) (line blank depth) (word w) = true
may_stand (behind_word kind) (line blank depth) (below c) = true
may_stand behind_comment (line blank depth) (word w) = true
may_stand behind_comment (line blank depth) (below c) = true
may_stand before separator item = false

-- `//` and bytes of one line, none of them at the end a blank one
abbrev pub IsCommentText : List ℕ → Type 0
IsCommentText text =
    (line : List ℕ) × (text ≡ codes "//" ++ line) × AllPass is_in_line line × (trimmed text ≡ text)

abbrev pub IsWhole : Item → Type 0
IsWhole (word w) = Spells w.kind w.text
IsWhole (beside c) = IsCommentText c
IsWhole (below c) = IsCommentText c

-- each item is one, and may stand where it does
abbrev pub MayStand : Before → List LaidItem → Type 0
MayStand before [] = Unit {0}
MayStand before (l ∷ ls) =
    IsWhole l.item × IsTrue (may_stand before l.separator l.item)
    × MayStand (then_behind l.item) ls

-- a comment stands on the line of the word before it only where a word stands before it
abbrev pub may_come_behind : Before → Item → Bool
may_come_behind before (word w) = true
may_come_behind start (beside c) = false
may_come_behind (behind_word kind) (beside c) = true
may_come_behind behind_comment (beside c) = false
may_come_behind before (below c) = true

-- the items of some text, of one that begins, or of what stands behind a word or a comment
abbrev pub MayFollow : Before → List Item → Type 0
MayFollow before [] = Unit {0}
MayFollow before (i ∷ is) =
    IsWhole i × IsTrue (may_come_behind before i) × MayFollow (then_behind i) is

-- the words among them
abbrev pub words_in : List Item → List TokenText
words_in [] = []
words_in (word w ∷ is) = w ∷ words_in is
words_in (beside c ∷ is) = words_in is
words_in (below c ∷ is) = words_in is

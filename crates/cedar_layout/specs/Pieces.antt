-- Pieces: the words and the comments of a text, in order.
use Rattle.std.specs.Prelude.{◌≡◌, ℕ, Bool, true, false, cond, not, ◌||◌, ◌==◌, List, [], ◌∷◌, ◌++◌, drop, slice_range}
use Rattle.std.specs.List.{take_while}
use Rattle.std.specs.Str.{byte}
use Rattle.cedar_lexer.specs.Cut.{is_line_end, is_in_line, Cuts}
use Rattle.cedar_lexer.specs.Token.{Lexeme}
use Rattle.cedar_lexer.specs.Words.{TokenText, written}

-- a word, a comment on the line of the word before it, or another comment. A comment is its bytes
-- from `//` to the end of its line, without what is blank at their end
pub data Item : Type 0 where
  word : TokenText → Item
  beside : List ℕ → Item
  below : List ℕ → Item

-- an item, and whether a blank line stands before it
pub record SpacedItem : Type 0 where
  pub blank : Bool
  pub item : Item

abbrev pub items_of : List SpacedItem → List Item
items_of [] = []
items_of (p ∷ ps) = p.item ∷ items_of ps

-- a space, a tab, a vertical tab or a form feed
abbrev pub is_blank_byte : ℕ → Bool
is_blank_byte b = b == 32 || b == 9 || b == 11 || b == 12

-- bytes without those at their end that are blank
abbrev pub before_trimmed : ℕ → List ℕ → List ℕ
before_trimmed b [] = cond (is_blank_byte b) [] (b ∷ [])
before_trimmed b (c ∷ cs) = b ∷ c ∷ cs

abbrev pub trimmed : List ℕ → List ℕ
trimmed [] = []
trimmed (b ∷ bs) = before_trimmed b (trimmed bs)

-- a place in what stands between two words: inside a comment; or outside, on the line of the word
-- before or not, behind no line feed, one, or more
pub data Standing : Type 0 where
  inside : Standing
  outside : Bool → ℕ → Standing

abbrev pub one_feed_more : ℕ → ℕ
one_feed_more feeds = cond (feeds == 0) 1 2

abbrev pub behind_byte : Standing → ℕ → Standing
behind_byte inside b = cond (is_line_end b) (outside false (cond (b == 10) 1 0)) inside
behind_byte (outside near feeds) b =
    cond (b == byte "/") inside
    (cond (b == 10) (outside false (one_feed_more feeds)) (outside near feeds))

abbrev pub behind_bytes : Standing → List ℕ → Standing
behind_bytes s [] = s
behind_bytes s (b ∷ bs) = behind_bytes (behind_byte s b) bs

-- two line feeds or more are a blank line
abbrev pub are_many : ℕ → Bool
are_many feeds = not (feeds == 0 || feeds == 1)

abbrev pub is_behind_blank : Standing → Bool
is_behind_blank inside = false
is_behind_blank (outside near feeds) = are_many feeds

abbrev pub comment_piece : Bool → ℕ → List ℕ → SpacedItem
comment_piece near feeds line =
    record { blank = are_many feeds; item = cond near (beside line) (below line) }

-- the comment that begins with a byte, which is the first of these, or none
abbrev pub comment_here : Standing → ℕ → List ℕ → List SpacedItem
comment_here inside b bs = []
comment_here (outside near feeds) b bs =
    cond (b == byte "/") (comment_piece near feeds (trimmed (take_while is_in_line bs)) ∷ []) []

-- the comments of such bytes: a `/` begins each
abbrev pub comments_in : Standing → List ℕ → List SpacedItem
comments_in s [] = []
comments_in inside (b ∷ bs) = comments_in (behind_byte inside b) bs
comments_in (outside near feeds) (b ∷ bs) =
    cond (b == byte "/")
    (comment_piece near feeds (trimmed (take_while is_in_line (b ∷ bs))) ∷ comments_in inside bs)
    (comments_in (behind_byte (outside near feeds) b) bs)

-- the pieces of a text from a place on, where these are its tokens from there on, and a word ends
-- there or not
abbrev pub word_piece : Standing → Lexeme → SpacedItem
word_piece s t = record { blank = is_behind_blank s; item = word (written t) }

-- what stands before a token, and its word
abbrev pub token_pieces : List ℕ → Bool → ℕ → Lexeme → List SpacedItem
token_pieces source near place t =
    comments_in (outside near 0) (slice_range source place t.start)
    ++ (word_piece (behind_bytes (outside near 0) (slice_range source place t.start)) t ∷ [])

abbrev pub pieces_behind : List ℕ → Bool → ℕ → List Lexeme → List SpacedItem
pieces_behind source near place [] = comments_in (outside near 0) (drop place source)
pieces_behind source near place (t ∷ ts) =
    comments_in (outside near 0) (slice_range source place t.start)
    ++ (word_piece (behind_bytes (outside near 0) (slice_range source place t.start)) t
    ∷ pieces_behind source true t.end ts)

-- a text cuts into tokens, and these are its pieces
abbrev pub IsReadAs : List ℕ → List SpacedItem → Type 0
IsReadAs source ps =
    (ts : List Lexeme) × Cuts source ts × (ps ≡ pieces_behind source false 0 ts)

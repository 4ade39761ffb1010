-- The words and the comments of a text in order, in the lexer's own words: its tokens, and of the
-- skips between them those that are comments.
use Rattle.std.specs.Prelude.{ℕ, List, [], ◌∷◌, ◌++◌, codes}
use Rattle.cedar_lexer.specs.Cut.{IsSkip, space, comment, Layout, nothing, skip, token}
use Rattle.cedar_lexer.specs.Token.{Lexeme}
use Rattle.cedar_lexer.specs.Words.{TokenText, written}
use Rattle.cedar_layout.specs.Pieces.{Item, word, beside, below, trimmed}

pub data Entry : Type 0 where
  token_text : TokenText → Entry
  comment_text : List ℕ → Entry

-- the comment that a skip is, without what is blank at its end, or nothing
unfoldable pub skip_entries : {text after : List ℕ} → IsSkip text after → List Entry
skip_entries (space c white) = []
skip_entries (comment line inner ends) = comment_text (trimmed (codes "//" ++ line)) ∷ []

-- those of what is laid end to end
unfoldable pub entries_of : {source : List ℕ} {ts : List Lexeme} {i j : ℕ} →
    Layout source i ts j → List Entry
entries_of nothing = []
entries_of (skip s more) = skip_entries s.skips ++ entries_of more
entries_of (token {t = t} s more) = token_text (written t) ∷ entries_of more

-- those of items
abbrev pub entry_of : Item → Entry
entry_of (word w) = token_text w
entry_of (beside c) = comment_text c
entry_of (below c) = comment_text c

abbrev pub entries_in : List Item → List Entry
entries_in [] = []
entries_in (i ∷ is) = entry_of i ∷ entries_in is

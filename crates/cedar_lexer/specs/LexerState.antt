-- What the lexer answers, from each place of its source.
use Rattle.std.specs.Prelude.{◌≡◌, ℕ, ◌-◌, Bool, true, false, cond, ◌⊎◌, List, [], ◌∷◌, length, Option, Some, None, Result, Ok, Err}
use Rattle.std.specs.Iterator.{Count, at_most}
use Rattle.cedar_lexer.specs.declared.token.Token.{Token}
use Rattle.cedar_lexer.specs.declared.token.InvalidToken.{InvalidToken}
use Rattle.cedar_lexer.specs.Token.{Lexeme, lexeme_of}
use Rattle.cedar_lexer.specs.Cut.{Layout, CutsFrom, StopsFrom}

-- a lexer, as contracts see it: its source, how far it has come, and whether it has ended
pub record LexerState : Type 0 where
  pub source : List ℕ
  pub offset : ℕ
  pub ended : Bool

-- a lexer that has not begun
abbrev pub fresh_lexer : List ℕ → LexerState
fresh_lexer source = record { source = source; offset = 0; ended = false }

-- the lexer behind the token that ends at this place, and the lexer that has ended
abbrev pub lexer_at : LexerState → ℕ → LexerState
lexer_at s place = record { source = s.source; offset = place; ended = false }

abbrev pub lexer_end : LexerState → LexerState
lexer_end s = record { source = s.source; offset = s.offset; ended = true }

-- from this place, skips and then this token
abbrev pub IsNextToken : List ℕ → ℕ → Lexeme → Type 0
IsNextToken source offset t = Layout source offset (t ∷ []) t.end

-- one call: the next token, and the lexer stands behind it; or the invalid token at the bad place,
-- or nothing where only skips are left, and then the lexer has ended; a lexer that has ended
-- answers nothing
abbrev pub LexerAnswers : LexerState → Option (Result Token InvalidToken) → LexerState → Type 0
LexerAnswers s (Some (Ok t)) u =
    (s.ended ≡ false) × IsNextToken s.source s.offset (lexeme_of t) × (u ≡ lexer_at s t.end)
LexerAnswers s (Some (Err e)) u =
    (s.ended ≡ false) × StopsFrom s.source s.offset [] e.location × (u ≡ lexer_end s)
LexerAnswers s None u = ((s.ended ≡ true) ⊎ CutsFrom s.source s.offset []) × (u ≡ lexer_end s)

-- no more answers are left than bytes
abbrev pub answer_limit : LexerState → Count
answer_limit s = at_most (cond s.ended 0 (length s.source - s.offset))

-- the source cuts into these tokens from `offset` on; or it stops behind them, where there is a
-- bad place
abbrev pub IsCutOrStop : List ℕ → ℕ → List Lexeme → Option ℕ → Type 0
IsCutOrStop source offset ts None = CutsFrom source offset ts
IsCutOrStop source offset ts (Some place) = StopsFrom source offset ts place

-- the answers are these tokens, and then the invalid token, where there is a bad place
abbrev pub AnswersAre : List (Result Token InvalidToken) → List Lexeme → Option ℕ → Type 0
AnswersAre [] ts bad = (ts ≡ []) × (bad ≡ None)
AnswersAre (Ok t ∷ answers) ts bad = (us : List Lexeme) × (ts ≡ lexeme_of t ∷ us)
    × AnswersAre answers us bad
AnswersAre (Err e ∷ answers) ts bad = (answers ≡ []) × (ts ≡ []) × (bad ≡ Some e.location)

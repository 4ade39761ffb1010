use Rattle.std.proofs.Common.{ℕ, length, Option, List}
use Rattle.cedar_lexer.specs.Token.{Lexeme}
use Rattle.cedar_lexer.specs.LexerState.{IsCutOrStop}
use Rattle.cedar_report.proofs.Pieces.{ArePiecesSoFar, left_behind}
use Rattle.cedar_report.proofs.behind.pieces.Given as goal

-- the pieces so far are those behind the first bad place, up to the last
abbrev pub invariant-loop-bad_place : goal.invariant-loop-bad_place
invariant-loop-bad_place l =
    (first : Option ℕ) × (tokens : List Lexeme) × IsCutOrStop l.text 0 tokens first × ArePiecesSoFar l.text first l.pieces.items l.bad_place

abbrev pub decreases-loop-bad_place : goal.decreases-loop-bad_place
decreases-loop-bad_place l = left_behind (length l.text) l.bad_place

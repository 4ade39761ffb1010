use Rattle.std.proofs.Common.{◌≡◌, length}
use denote.Text.{Utf8}
use denote.Shadow.{shadow}
use Rattle.std.specs.Str.{chars}
use Rattle.cedar_syntax.specs.strings.PieceAhead.{unskipped_text}
use Rattle.cedar_syntax.proofs.unescape.piece.behind_blanks.Given as goal

-- what is left of the text has the same characters behind its blanks
abbrev pub invariant-loop-after : goal.invariant-loop-after
invariant-loop-after l = shadow (Utf8 l.rest) × (unskipped_text (chars l.rest) ≡ unskipped_text (chars l.text))

abbrev pub decreases-loop-after : goal.decreases-loop-after
decreases-loop-after l = length l.rest

use Rattle.std.proofs.Common.{◌≡◌, length}
use denote.Text.{Utf8}
use denote.Shadow.{shadow}
use Rattle.std.specs.Str.{chars}
use Rattle.cedar_syntax.specs.strings.PieceAhead.{inside_braces, tally_of}
use Rattle.cedar_syntax.proofs.unescape.piece.inside_braces.Given as goal

-- the digits so far and what is left of the text are read to the same end
abbrev pub invariant-loop-c : goal.invariant-loop-c
invariant-loop-c l =
    shadow (Utf8 l.rest) × (inside_braces (tally_of l.digits) (chars l.rest) ≡ inside_braces (tally_of l.fn.digits) (chars l.text))

abbrev pub decreases-loop-c : goal.decreases-loop-c
decreases-loop-c l = length l.rest

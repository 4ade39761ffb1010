-- The words of a text, each with the gap before it.
use Rattle.std.specs.Prelude.{Bool, true, false, List, [], ◌∷◌, Option, Some, None}
use Rattle.cedar_lexer.specs.Words.{TokenText}
use Rattle.cedar_lexer.specs.declared.token.TokenKind.{TokenKind}
use Rattle.cedar_layout.specs.declared.brackets.Bracket.{Bracket}
use Rattle.cedar_layout.specs.declared.spots.Spot.{Spot}
use Rattle.cedar_layout.specs.Brackets.{innermost_of, brackets_behind}
use Rattle.cedar_layout.specs.Columns.{width_of}
use Rattle.cedar_layout.specs.Gaps.{gap_at}
use Rattle.cedar_layout.specs.Hugs.{first_flag, rest_flags, hugs_of}
use Rattle.cedar_layout.specs.Pieces.{Item, word, beside, below}

-- behind two words, of which a comment stands before the last or none, and a comment or none
abbrev pub spot_at :
    Option Bracket → Option TokenKind → Option TokenKind → Bool → Bool → TokenText → Spot
spot_at bracket before last led commented w = record {
  kind = w.kind;
  columns = width_of w.text;
  commented = commented;
  gap = gap_at bracket commented led before last w.kind w.text;
}

-- in these open brackets; of each word is told what a bracket holds that opens with it
abbrev pub spots_from : List Bracket → Option TokenKind → Option TokenKind → Bool → Bool →
    List Bool → List Item → List Spot
spots_from brackets before last led commented told [] = []
spots_from brackets before last led commented told (word w ∷ is) =
    spot_at (innermost_of brackets) before last led commented w
    ∷ spots_from
    (brackets_behind brackets before w.kind (first_flag told)) last (Some w.kind) commented false
    (rest_flags told) is
spots_from brackets before last led commented told (beside c ∷ is) =
    spots_from brackets before last led true told is
spots_from brackets before last led commented told (below c ∷ is) =
    spots_from brackets before last led true told is

abbrev pub spots_of : List Item → List Spot
spots_of is = spots_from [] None None false false (hugs_of is) is

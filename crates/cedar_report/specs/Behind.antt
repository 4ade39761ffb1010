-- What is told of a text behind a place where no token begins: pieces of it are parsed alone, and
-- their findings stand where they are in the text.
use Rattle.std.specs.Prelude.{◌≡◌, ◌≤◌, ◌<◌, ℕ, List, [], ◌∷◌, ◌++◌, ◌+◌, ◌-◌, ◌^◌, min, Bool, true, false, ◌&&◌, ◌||◌, Option, Some, None, codes, length, take, drop, nat_lt, nat_eq}
use Rattle.std.specs.Char.{is_ascii_whitespace}
use Rattle.std.specs.List.{AllZip, list_all, starts_with}
use Rattle.std.specs.Option.{option_map}
use Rattle.cedar_lexer.specs.Token.{Lexeme}
use Rattle.cedar_lexer.specs.Cut.{Cuts}
use Rattle.cedar_lexer.specs.LexerState.{IsCutOrStop}
use Rattle.cedar_policy_store.specs.PlaceFree.{Policies}
use Rattle.cedar_syntax.specs.faults.ParseErrors.{faults_of}
use Rattle.cedar_syntax.specs.places.Position.{last_line, line_behind}
use Rattle.cedar_syntax.specs.tokens.Signs.{sign_limit}
use Rattle.cedar_syntax.specs.declared.err.faults.ParseErrors.{ParseErrors}
use Rattle.cedar_syntax.specs.declared.err.faults.Failure.TheVariants.{Errors}
use Rattle.cedar_syntax.specs.declared.err.faults.ParseError.{ParseError}
use Rattle.cedar_conversion.specs.strict.Extensions.{Extensions}
use Rattle.cedar_policy_parser.specs.faults.Refused.{RefusesSet}
use Rattle.cedar_policy_parser.specs.meaning.StrictPolicy.{IsPolicySet}
use Rattle.cedar_report.specs.declared.behind.Piece.{Piece}
use Rattle.cedar_report.specs.declared.finding.Extent.{Extent}
use Rattle.cedar_report.specs.declared.finding.Finding.{Finding}
use Rattle.cedar_report.specs.Findings.{AreTold, IsSeen, AreRelatedSeen}
use Rattle.cedar_report.specs.Parts.{IsPartAt}

-- the first word or sign of a policy
abbrev pub begins_policy : List ℕ → Bool
begins_policy rest = starts_with nat_eq rest (codes "permit")
    || (starts_with nat_eq rest (codes "forbid") || starts_with nat_eq rest (codes "@"))

-- a byte stands in a line behind that of another one, with nothing but white space before it
abbrev pub is_in_margin : List ℕ → ℕ → ℕ → Bool
is_in_margin text from at = nat_lt (line_behind (take from text)) (line_behind (take at text))
    && list_all is_ascii_whitespace (last_line (take at text))

-- a line behind that of one byte begins a policy at another one
abbrev pub begins_behind : List ℕ → ℕ → ℕ → Bool
begins_behind text from at = is_in_margin text from at && begins_policy (drop at text)

-- the first such byte, if there is one
abbrev pub IsNextPolicy : List ℕ → ℕ → Option ℕ → Type 0
IsNextPolicy text from (Some at) = (begins_behind text from at ≡ true)
    × ((k : ℕ) → from ≤ k → k < at → begins_behind text from k ≡ false)
IsNextPolicy text from None =
    (k : ℕ) → from ≤ k → k < length text → begins_behind text from k ≡ false

-- all bytes up to the place where no token begins, and what stands there; all, where there is none
abbrev pub Holds : List ℕ → List ℕ → Option ℕ → Type 0
Holds rest part None = part ≡ rest
Holds rest part (Some place) = IsPartAt rest 0 part × (place < length part)

-- a piece of a text: it begins at a byte of it, and goes on to the next place where no token begins
pub record IsPiece (text : List ℕ) (piece : Piece) : Type 0 where
  pub tokens : List Lexeme
  pub cut : IsCutOrStop (drop piece.start text) 0 tokens piece.bad_place
  pub holds : Holds (drop piece.start text) piece.text.now piece.bad_place

-- the pieces of a text behind such a place, one behind the other
pub data ArePieces (text : List ℕ) : Option ℕ → List Piece → Type 0 where
  -- there is no such place
  whole : ArePieces text None []
  -- behind it no policy begins
  ended : {place : ℕ} → IsNextPolicy text place None → ArePieces text (Some place) []
  -- where the next one begins, a piece does
  next : {place : ℕ} {piece : Piece} {pieces : List Piece} →
      IsNextPolicy text place (Some piece.start) → IsPiece text piece →
      ArePieces text (option_map (λ bad. piece.start + bad) piece.bad_place) pieces →
      ArePieces text (Some place) (piece ∷ pieces)

-- a byte of a piece that begins at a byte of a text, as one of the text: no text has as many as the
-- largest number
abbrev pub moved_byte : ℕ → ℕ → ℕ
moved_byte start byte = min (start + byte) (2 ^ 64 - 1)

-- a range of a piece, as one of the text
abbrev pub IsMovedExtent : List ℕ → ℕ → Extent → Extent → Type 0
IsMovedExtent text start from to = (to.start ≡ moved_byte start from.start)
    × (to.end ≡ moved_byte start from.end) × IsSeen text to

abbrev pub IsMovedRange : List ℕ → ℕ → Option Extent → Option Extent → Type 0
IsMovedRange text start None None = Unit {0}
IsMovedRange text start (Some from) (Some to) = IsMovedExtent text start from to
IsMovedRange text start None (Some to) = ⊥
IsMovedRange text start (Some from) None = ⊥

-- a finding of a piece that begins at a byte of a text, as one of the text: it says the same, and
-- follows
pub record IsMoved (text : List ℕ) (start : ℕ) (from to : Finding) : Type 0 where
  pub code : to.code ≡ from.code
  pub range : IsMovedRange text start from.extent to.extent
  pub cause : IsMovedRange text start from.cause to.cause
  pub message : to.message ≡ from.message
  pub label : to.label ≡ from.label
  pub help : to.help ≡ from.help
  pub expected : to.expected ≡ from.expected
  pub related : AreRelatedSeen text to.related.items
  pub follows : to.follows ≡ true

-- a text means policies under a table
abbrev pub MeansPolicies : Extensions → List ℕ → Type 0
MeansPolicies table text = (policies : Policies) × (ts : List Lexeme) × Cuts text ts
    × IsPolicySet table sign_limit ts policies

-- it means some, or is refused with these faults
abbrev pub MeansOrRefuses : Extensions → List ℕ → Option ParseErrors → Type 0
MeansOrRefuses table text None = MeansPolicies table text
MeansOrRefuses table text (Some faults) = RefusesSet table (Errors faults) text

-- what is told of a piece: nothing where it means policies, else its faults alone, in the text
pub data TellsPiece (table : Extensions) (text : List ℕ) (piece : Piece) :
    List Finding → Type 0 where
  meant : MeansPolicies table piece.text.now → TellsPiece table text piece []
  refused : (faults : ParseErrors) (told : List Finding) {moved : List Finding} →
      RefusesSet table (Errors faults) piece.text.now →
      AreTold piece.text.now (faults_of faults) told →
      AllZip (IsMoved text piece.start) told moved → TellsPiece table text piece moved

-- what is told of pieces, of one behind the other
pub data TellsPieces (table : Extensions) (text : List ℕ) :
    List Piece → List Finding → Type 0 where
  nothing : TellsPieces table text [] []
  more : {piece : Piece} {pieces : List Piece} {first rest : List Finding} →
      TellsPiece table text piece first → TellsPieces table text pieces rest →
      TellsPieces table text (piece ∷ pieces) (first ++ rest)

-- the pieces of a text, behind its first place where no token begins
pub record IsInPieces (text : List ℕ) (pieces : List Piece) : Type 0 where
  pub tokens : List Lexeme
  pub bad_place : Option ℕ
  pub cut : IsCutOrStop text 0 tokens bad_place
  pub are_pieces : ArePieces text bad_place pieces

-- the findings of a text's faults, and behind them those of its pieces
pub record IsToldBeyond (table : Extensions) (text : List ℕ) (faults : List ParseError)
    (findings : List Finding) : Type 0 where
  pub first : List Finding
  pub rest : List Finding
  pub pieces : List Piece
  pub together : findings ≡ first ++ rest
  pub told : AreTold text faults first
  pub behind : IsInPieces text pieces
  pub told_behind : TellsPieces table text pieces rest

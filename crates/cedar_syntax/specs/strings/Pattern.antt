-- Pattern: what the raw text of a pattern stands for. It is laid out of the same pieces as a
-- string's.
use Rattle.std.specs.Prelude.{◌≡◌, ℕ, Bool, false, ◌&&◌, ◌==◌, List, [], ◌∷◌, if◌then◌else◌}
use Rattle.std.specs.List.{flat_map}
use Rattle.std.specs.Str.{byte}
use Rattle.cedar_expressions.specs.declared.atoms.PatternElem.{PatternElem}
use Rattle.cedar_expressions.specs.declared.atoms.PatternElem.TheVariants.{Char, Wildcard}
use Rattle.cedar_syntax.specs.declared.err.escape.UnescapeError.{UnescapeError}
use Rattle.cedar_syntax.specs.declared.unescape.piece.PieceValue.{PieceValue}
use Rattle.cedar_syntax.specs.declared.unescape.piece.PieceValue.TheVariants.{Nothing, Character, Fault}
use Rattle.cedar_syntax.specs.strings.Piece.{Placed, IsLaidOut, fault_at}

-- the piece `\*`, a star that is no wildcard
abbrev pub is_escaped_star : List ℕ → Bool
is_escaped_star [] = false
is_escaped_star (a ∷ []) = false
is_escaped_star (a ∷ b ∷ []) = a == byte "\\" && b == byte "*"
is_escaped_star (a ∷ b ∷ c ∷ cs) = false

-- a star is a wildcard, in whatever spelling; any other character is itself
abbrev pub character_elem : ℕ → PatternElem
character_elem c = if c == byte "*" then Wildcard else Char c

-- the part of the pattern that a piece stands for
abbrev pub elem_of : Placed → PieceValue → List PatternElem
elem_of p Nothing = []
elem_of p (Character c) = character_elem c ∷ []
elem_of p (Fault kind) = if is_escaped_star p.text then Char (byte "*") ∷ [] else []

-- the fault that a piece is in a pattern
abbrev pub pattern_fault_of : List ℕ → Placed → PieceValue → List UnescapeError
pattern_fault_of raw p Nothing = []
pattern_fault_of raw p (Character c) = []
pattern_fault_of raw p (Fault kind) =
    if is_escaped_star p.text then [] else fault_at raw p kind ∷ []

abbrev pub pattern_pieces : List Placed → List PatternElem
pattern_pieces ps = flat_map (λ p. elem_of p p.outcome) ps

abbrev pub pattern_faults : List ℕ → List Placed → List UnescapeError
pattern_faults raw ps = flat_map (λ p. pattern_fault_of raw p p.outcome) ps

-- the pattern of a raw text, none of whose pieces is a fault in a pattern
pub record IsPattern (raw : List ℕ) (elems : List PatternElem) : Type 0 where
  pub pieces : List Placed
  pub laid_out : IsLaidOut raw pieces
  pub faultless : pattern_faults raw pieces ≡ []
  pub parts : pattern_pieces pieces ≡ elems

-- the faults of a raw text as a pattern, in order
pub record HasPatternFaults (raw : List ℕ) (faults : List UnescapeError) : Type 0 where
  pub pieces : List Placed
  pub laid_out : IsLaidOut raw pieces
  pub told : pattern_faults raw pieces ≡ faults

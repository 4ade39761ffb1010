-- Cut: the tokens of a text. Skips and spellings are laid end to end, each spelling the longest
-- that starts at its place.
use Rattle.std.specs.Prelude.{◌≡◌, ◌≢◌, ℕ, ◌+◌, ◌≤◌, ◌<◌, Bool, ◌||◌, ◌==◌, not, IsTrue, List, [], ◌∷◌, ◌++◌, codes, length, drop, slice_range}
use Rattle.std.specs.List.{AllPass}
use Rattle.std.specs.Char.{encode_utf8, is_whitespace}
use Rattle.std.specs.Str.{IsCharBoundary}
use Rattle.cedar_lexer.specs.declared.token.TokenKind.{TokenKind}
use Rattle.cedar_lexer.specs.Token.{Lexeme}
use Rattle.cedar_lexer.specs.Spelling.{Spells}

-- a line feed or a carriage return, before which a comment ends
abbrev pub is_line_end : ℕ → Bool
is_line_end b = b == 10 || b == 13

abbrev pub is_in_line : ℕ → Bool
is_in_line b = not (is_line_end b)

-- the text ends here, or a line does
abbrev pub EndsLine : List ℕ → Type 0
EndsLine [] = Unit {0}
EndsLine (b ∷ after) = IsTrue (is_line_end b)

-- what may stand between two tokens and means nothing, and what stands behind it
pub data IsSkip : List ℕ → List ℕ → Type 0 where
  -- a character of white space
  space : (c : ℕ) {after : List ℕ} → IsTrue (is_whitespace c) → IsSkip (encode_utf8 c) after
  -- a comment: `//` and the whole of the line behind it
  comment : (line : List ℕ) {after : List ℕ} → AllPass is_in_line line → EndsLine after →
      IsSkip (codes "//" ++ line) after

-- a spelling of this kind before `after`. A `/` straight before another `/` is none: where `//`
-- stands, no spelling does
pub record IsSpelled (kind : TokenKind) (text after : List ℕ) : Type 0 where
  pub spells : Spells kind text
  pub apart : (more : List ℕ) → text ++ after ≢ codes "//" ++ more

-- neither a skip nor a spelling starts here
pub record NothingStarts (rest : List ℕ) : Type 0 where
  pub no_skip : (text after : List ℕ) → rest ≡ text ++ after → ¬ (IsSkip text after)
  pub no_spelling : (kind : TokenKind) (text after : List ℕ) → rest ≡ text ++ after →
      ¬ (IsSpelled kind text after)

-- a skip stands in the source from place i to place j
pub record IsSkipAt (source : List ℕ) (i j : ℕ) : Type 0 where
  pub text : List ℕ
  pub after : List ℕ
  pub stands : drop i source ≡ text ++ after
  pub skips : IsSkip text after
  pub ends : j ≡ i + length text

-- the token stands in the source at place i, and no longer spelling starts there
pub record IsTokenAt (source : List ℕ) (i : ℕ) (t : Lexeme) : Type 0 where
  pub after : List ℕ
  pub stands : drop i source ≡ t.text ++ after
  pub spelled : IsSpelled t.kind t.text after
  pub longest : (kind : TokenKind) (text rest : List ℕ) → drop i source ≡ text ++ rest →
      IsSpelled kind text rest → length text ≤ length t.text
  pub starts : t.start ≡ i
  pub ends : t.end ≡ i + length t.text

-- from place i to place k of the source skips and spellings are laid end to end, and the spellings
-- are these tokens
pub data Layout (source : List ℕ) : ℕ → List Lexeme → ℕ → Type 0 where
  nothing : {i : ℕ} → Layout source i [] i
  skip : {i j k : ℕ} {ts : List Lexeme} → IsSkipAt source i j → Layout source j ts k →
      Layout source i ts k
  token : {i k : ℕ} {t : Lexeme} {ts : List Lexeme} → IsTokenAt source i t →
      Layout source t.end ts k → Layout source i (t ∷ ts) k

-- the source from `offset` on, and the whole source, cuts into these tokens
abbrev pub CutsFrom : List ℕ → ℕ → List Lexeme → Type 0
CutsFrom source offset ts = Layout source offset ts (length source)

abbrev pub Cuts : List ℕ → List Lexeme → Type 0
Cuts source ts = CutsFrom source 0 ts

-- from `offset`, or from the start, the source is cut into these tokens up to `place`, where it
-- hasn't ended, but neither a skip nor a spelling starts
abbrev pub StopsFrom : List ℕ → ℕ → List Lexeme → ℕ → Type 0
StopsFrom source offset ts place =
    Layout source offset ts place × (place < length source) × NothingStarts (drop place source)

abbrev pub StopsAt : List ℕ → List Lexeme → ℕ → Type 0
StopsAt source ts place = StopsFrom source 0 ts place

-- the token is a nonempty range of the source between two characters, and its text is that range
pub record IsTokenRange (source : List ℕ) (t : Lexeme) : Type 0 where
  pub nonempty : t.start < t.end
  pub within : t.end ≤ length source
  pub starts : IsCharBoundary source t.start
  pub ends : IsCharBoundary source t.end
  pub text : t.text ≡ slice_range source t.start t.end

-- each is such a range, and none starts before the one in front of it ends, nor the first before
-- `from`
abbrev pub StandInOrder : List ℕ → ℕ → List Lexeme → Type 0
StandInOrder source from [] = Unit {0}
StandInOrder source from (t ∷ ts) =
    (from ≤ t.start) × IsTokenRange source t × StandInOrder source t.end ts

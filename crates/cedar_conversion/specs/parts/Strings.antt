-- What a string stands for: a text, or a pattern right of `like`.
use Rattle.std.specs.Prelude.{ℕ, zero, suc, ◌+◌, ◌-◌, List, [], ◌∷◌, length, map, take, Option, Ok, Err}
use Rattle.std.specs.Str.{chars}
use Rattle.cedar_syntax.specs.declared.err.escape.UnescapeError.{UnescapeError}
use Rattle.cedar_syntax.specs.declared.loc.Loc.{Loc}
use Rattle.cedar_expressions.specs.declared.atoms.PatternElem.{PatternElem}
use Rattle.cedar_syntax.specs.strings.Pattern.{pattern_faults, pattern_pieces}
use Rattle.cedar_syntax.specs.strings.Piece.{Placed, bytes_len, piece_at, piece_faults, unescaped_pieces}
use Rattle.cedar_syntax.specs.strings.PieceAhead.{PieceAhead, first_piece}
use Rattle.cedar_conversion.specs.outcome.Detail.{escape}
use Rattle.cedar_conversion.specs.outcome.Outcome.{Outcome, NamedFault, unescape}

-- the characters of the first piece of a text, of what stands behind it
abbrev pub taken : List ℕ → PieceAhead → List ℕ
taken cs ahead = take (length cs - length ahead.rest) cs

-- the pieces from a byte of a text on, one after another from the left, so many at most
abbrev pub pieces_from : ℕ → ℕ → List ℕ → List Placed
pieces_from zero start cs = []
pieces_from (suc n) start [] = []
pieces_from (suc n) start (c ∷ cs) =
    piece_at start (taken (c ∷ cs) (first_piece c cs)) (first_piece c cs).outcome
    ∷ pieces_from n (start + bytes_len (taken (c ∷ cs) (first_piece c cs)))
    (first_piece c cs).rest

-- the pieces that a raw text is laid out of: they are such, and there are no others (the law
-- `one_layout` of `cedar_syntax`); a text has no more pieces than characters
unfoldable pub layout : List ℕ → List Placed
layout raw = pieces_from (length (chars raw)) 0 (chars raw)

-- the escape faults of a raw text, and the text that it stands for where there are none
abbrev pub escape_faults : List ℕ → List UnescapeError
escape_faults raw = piece_faults raw (layout raw)

abbrev pub unescaped : List ℕ → List ℕ
unescaped raw = unescaped_pieces (layout raw)

-- each escape fault, at the string's place
abbrev pub string_faults : Option Loc → List UnescapeError → List NamedFault
string_faults place faults = map (λ fault. (unescape, place, escape fault)) faults

abbrev pub unless_faulty : {X : Type 0} → Option Loc → List UnescapeError → X → Outcome X
unless_faulty place [] x = Ok x
unless_faulty place (fault ∷ faults) x = Err (string_faults place (fault ∷ faults))

-- the text that a raw text at a place stands for
abbrev pub text_outcome : Option Loc → List ℕ → Outcome (List ℕ)
text_outcome place raw = unless_faulty place (escape_faults raw) (unescaped raw)

-- the pattern that a raw text at a place stands for
abbrev pub pattern_outcome : Option Loc → List ℕ → Outcome (List PatternElem)
pattern_outcome place raw =
    unless_faulty place (pattern_faults raw (layout raw)) (pattern_pieces (layout raw))

-- What fits on a line isn't broken: no line begins in a bracket that fits, without a comment, from
-- where it opens up to where the line can end next behind it; nor in an operand that fits, from
-- where it begins up to the next `&&`.
use Rattle.std.specs.Prelude.{◌≡◌, ℕ, Bool, true, false, cond, not, ◌&&◌, nat_lt, List, [], ◌∷◌}
use Rattle.cedar_lexer.specs.declared.token.TokenKind.{TokenKind}
use Rattle.cedar_layout.specs.declared.levels.Level.{Level}
use Rattle.cedar_layout.specs.declared.levels.Level.TheVariants.{Related}
use Rattle.cedar_layout.specs.declared.measures.MeasuredWord.{MeasuredWord}
use Rattle.cedar_layout.specs.Hugs.{first_flag, rest_flags}
use Rattle.cedar_layout.specs.Kinds.{opens, closes}
use Rattle.cedar_layout.specs.Levels.{rank}
use Rattle.cedar_layout.specs.Laid.{Separator, nothing, space, line, LaidItem, pieces_of, file_text, start, MayStand}
use Rattle.cedar_layout.specs.Measures.{plus, fits_from, words_measured}
use Rattle.cedar_layout.specs.Pieces.{SpacedItem, items_of}
use Rattle.cedar_layout.specs.Spots.{spots_of}
use Rattle.cedar_layout.specs.Widths.{column_at, separators_of}

abbrev pub is_line : Separator → Bool
is_line nothing = false
is_line space = false
is_line (line blank depth) = true

-- of each bracket that is open behind a word in a column, the innermost first, whether it fits
abbrev pub fits_behind : ℕ → ℕ → List Bool → MeasuredWord → List Bool
fits_behind width column fit w =
    cond (opens w.spot.kind) (fits_from width column w.measure.from w.measure.whole ∷ fit)
    (cond (closes w.spot.kind) (rest_flags fit) fit)

-- words with these before them, from a column of a line on, in such brackets: in one that fits no
-- line begins, not even before its end
abbrev pub StaysWhole : ℕ → ℕ → List Bool → List Separator → List MeasuredWord → Type 0
StaysWhole width column fit [] ws = Unit {0}
StaysWhole width column fit (p ∷ ps) [] = Unit {0}
StaysWhole width column fit (p ∷ ps) (w ∷ ws) =
    (first_flag fit ≡ true → is_line p ≡ false)
    × StaysWhole width (plus (column_at p column) w.spot.columns)
    (fits_behind width (column_at p column) fit w) ps ws

-- a text is these pieces' items with what may stand before each, and none of its brackets that fits
-- is broken
abbrev pub KeepsWhole : ℕ → List SpacedItem → List ℕ → Type 0
KeepsWhole width ps text =
    (ls : List LaidItem) × MayStand start ls × (items_of (pieces_of ls) ≡ items_of ps)
    × (text ≡ file_text ls)
    × StaysWhole width 0 [] (separators_of ls) (words_measured (spots_of (items_of ps)))

-- ---- operands

-- an operand begins behind such a gap, and ends before the next one: at `&&`, `||`, `then`, `else`
-- and a comma, and inside a bracket's ends
abbrev pub is_outer : Level → Bool
is_outer level = nat_lt (rank level) (rank Related)

-- of each open bracket, the innermost first, whether the operand fits that was begun last in it; at
-- a word in a column
abbrev pub operand_fits : ℕ → ℕ → List Bool → MeasuredWord → List Bool
operand_fits width column [] w = []
operand_fits width column (fit ∷ fits) w =
    cond (is_outer w.spot.gap.level)
    (not w.spot.gap.closing && fits_from width column w.measure.from w.measure.ahead.related) fit
    ∷ fits

abbrev pub fits_past : TokenKind → List Bool → List Bool
fits_past kind fits = cond (opens kind) (false ∷ fits) (cond (closes kind) (rest_flags fits) fits)

-- words with these before them, from a column of a line on: no line begins in an operand that fits
abbrev pub OperandsStay : ℕ → ℕ → List Bool → List Separator → List MeasuredWord → Type 0
OperandsStay width column fits [] ws = Unit {0}
OperandsStay width column fits (p ∷ ps) [] = Unit {0}
OperandsStay width column fits (p ∷ ps) (w ∷ ws) =
    (first_flag fits && not (is_outer w.spot.gap.level) ≡ true → is_line p ≡ false)
    × OperandsStay width (plus (column_at p column) w.spot.columns)
    (fits_past w.spot.kind (operand_fits width (column_at p column) fits w)) ps ws

-- a text is these pieces' items with what may stand before each, and none of its operands that fits
-- is broken
abbrev pub KeepsOperands : ℕ → List SpacedItem → List ℕ → Type 0
KeepsOperands width ps text =
    (ls : List LaidItem) × MayStand start ls × (items_of (pieces_of ls) ≡ items_of ps)
    × (text ≡ file_text ls)
    × OperandsStay width 0 [] (separators_of ls) (words_measured (spots_of (items_of ps)))

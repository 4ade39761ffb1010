-- How far words reach: one passes the width only where its line could not have ended before it.
-- Comments aren't counted.
use Rattle.std.specs.Prelude.{◌≡◌, ◌≤◌, ℕ, nat_lt, Bool, false, ◌||◌, IsTrue, List, [], ◌∷◌}
use Rattle.cedar_layout.specs.declared.levels.Level.{Level}
use Rattle.cedar_layout.specs.declared.levels.Level.TheVariants.{Fixed}
use Rattle.cedar_layout.specs.declared.spots.Spot.{Spot}
use Rattle.cedar_layout.specs.Laid.{Separator, nothing, space, line, LaidItem, pieces_of, file_text, start, MayStand}
use Rattle.cedar_layout.specs.Levels.{rank}
use Rattle.cedar_layout.specs.Measures.{plus}
use Rattle.cedar_layout.specs.Pieces.{Item, word, beside, below, SpacedItem, items_of}
use Rattle.cedar_layout.specs.Spots.{spots_of}

-- a line may end at a gap of this level
abbrev pub may_end_line : Level → Bool
may_end_line level = nat_lt (rank level) (rank Fixed)

-- the column in which a word begins, behind what stands before it and the column before that;
-- columns end at the largest `usize`
abbrev pub column_at : Separator → ℕ → ℕ
column_at nothing column = column
column_at space column = plus column 1
column_at (line blank depth) column = depth

-- whether a line that goes on with a word could have ended at its gap, or could before
abbrev pub has_choice : Separator → Level → Bool → Bool
has_choice nothing level before = before || may_end_line level
has_choice space level before = before || may_end_line level
has_choice (line blank depth) level before = false

-- what stands before each word
abbrev pub before_word : Item → Separator → List Separator → List Separator
before_word (word w) p ps = p ∷ ps
before_word (beside c) p ps = ps
before_word (below c) p ps = ps

abbrev pub separators_of : List LaidItem → List Separator
separators_of [] = []
separators_of (l ∷ ls) = before_word l.item l.separator (separators_of ls)

-- words with these before them, from a column of a line on that could have ended or not: where it
-- could, no word passes the width
abbrev pub StaysWithin : ℕ → ℕ → Bool → List Separator → List Spot → Type 0
StaysWithin width column choice [] ss = Unit {0}
StaysWithin width column choice (p ∷ ps) [] = Unit {0}
StaysWithin width column choice (p ∷ ps) (s ∷ ss) =
    (IsTrue (has_choice p s.gap.level choice) → plus (column_at p column) s.columns ≤ width)
    × StaysWithin width (plus (column_at p column) s.columns)
    (has_choice p s.gap.level choice) ps ss

-- a text is these pieces' items with what may stand before each, and no word of it passes the
-- width behind a gap of its line at which that may end
abbrev pub KeepsWidth : ℕ → List SpacedItem → List ℕ → Type 0
KeepsWidth width ps text =
    (ls : List LaidItem) × MayStand start ls × (items_of (pieces_of ls) ≡ items_of ps)
    × (text ≡ file_text ls)
    × StaysWithin width 0 false (separators_of ls) (spots_of (items_of ps))

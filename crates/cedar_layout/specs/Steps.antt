-- How deep lines begin. In a bracket: one step or more deeper than the line on which it opens, and
-- its end just as deep as that line. Outside of brackets: at the margin. None begins further on
-- than the width.
use Rattle.std.specs.Prelude.{◌≡◌, ◌⊎◌, ◌+◌, ℕ, Bool, true, false, cond, List, [], ◌∷◌}
use Rattle.cedar_layout.specs.declared.options.LayoutOptions.{LayoutOptions}
use Rattle.cedar_lexer.specs.declared.token.TokenKind.{TokenKind}
use Rattle.cedar_layout.specs.Kinds.{opens, closes}
use Rattle.cedar_layout.specs.Laid.{Separator, nothing, space, line, LaidItem, pieces_of, file_text, start, MayStand}
use Rattle.cedar_layout.specs.Pieces.{Item, word, beside, below, SpacedItem, items_of}

-- the spaces of no step, or of one more
pub data AreSteps : ℕ → ℕ → Type 0 where
  no_step : (indent : ℕ) → AreSteps indent 0
  one_more : {indent spaces : ℕ} → AreSteps indent spaces → AreSteps indent (spaces + indent)

abbrev pub IsStepsDeeper : ℕ → ℕ → ℕ → Type 0
IsStepsDeeper indent from depth =
    (spaces : ℕ) × AreSteps indent spaces × (depth ≡ from + spaces)

-- of each open bracket, the innermost first, is told how deep the line begins on which it opens;
-- with the innermost one's end, or with something else, a line begins so deep
abbrev pub IsInStep : LayoutOptions → List ℕ → Bool → ℕ → Type 0
IsInStep o [] is_end depth = depth ≡ 0
IsInStep o (outer ∷ outers) true depth = depth ≡ outer
IsInStep o (outer ∷ outers) false depth =
    (depth ≡ o.width) ⊎ IsStepsDeeper o.indent (outer + o.indent) depth

-- where this stands before it, a line may begin
abbrev pub WhereLine : Separator → (ℕ → Type 0) → Type 0
WhereLine nothing P = Unit {0}
WhereLine space P = Unit {0}
WhereLine (line blank depth) P = P depth

abbrev pub BeginsInStep : LayoutOptions → List ℕ → Item → Separator → Type 0
BeginsInStep o outers (word w) p = WhereLine p (IsInStep o outers (closes w.kind))
BeginsInStep o outers (beside c) p = Unit {0}
BeginsInStep o outers (below c) p = WhereLine p (IsInStep o outers false)

-- how deep the line of a word begins
abbrev pub depth_on : Separator → ℕ → ℕ
depth_on nothing depth = depth
depth_on space depth = depth
depth_on (line blank deep) depth = deep

abbrev pub depth_past : Item → Separator → ℕ → ℕ
depth_past (word w) p depth = depth_on p depth
depth_past (beside c) p depth = depth
depth_past (below c) p depth = depth

abbrev pub without_outer : List ℕ → List ℕ
without_outer [] = []
without_outer (outer ∷ outers) = outers

abbrev pub outers_past : TokenKind → ℕ → List ℕ → List ℕ
outers_past kind depth outers =
    cond (opens kind) (depth ∷ outers) (cond (closes kind) (without_outer outers) outers)

abbrev pub outers_behind : Item → ℕ → List ℕ → List ℕ
outers_behind (word w) depth outers = outers_past w.kind depth outers
outers_behind (beside c) depth outers = outers
outers_behind (below c) depth outers = outers

-- behind a word whose line begins so deep, in such brackets
abbrev pub BeginInStep : LayoutOptions → ℕ → List ℕ → List LaidItem → Type 0
BeginInStep o depth outers [] = Unit {0}
BeginInStep o depth outers (l ∷ ls) =
    BeginsInStep o outers l.item l.separator
    × BeginInStep o (depth_past l.item l.separator depth)
    (outers_behind l.item (depth_past l.item l.separator depth) outers) ls

-- a text is these pieces' items with what may stand before each, and each line of it begins so
abbrev pub KeepsSteps : LayoutOptions → List SpacedItem → List ℕ → Type 0
KeepsSteps o ps text =
    (ls : List LaidItem) × MayStand start ls × (items_of (pieces_of ls) ≡ items_of ps)
    × (text ≡ file_text ls) × BeginInStep o 0 [] ls

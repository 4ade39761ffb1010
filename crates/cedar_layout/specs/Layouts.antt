-- A layout: what is decided for each item by all items, and the text that this makes of pieces.
use Rattle.std.specs.Prelude.{ℕ, Bool, true, false, cond, List, [], ◌∷◌}
use Rattle.cedar_layout.specs.declared.decisions.Form.{Form}
use Rattle.cedar_layout.specs.declared.decisions.Form.TheVariants.{Joined, Apart, Broken}
use Rattle.cedar_layout.specs.declared.decisions.BlankRule.{BlankRule}
use Rattle.cedar_layout.specs.declared.decisions.BlankRule.TheVariants.{Never, Kept, Always}
use Rattle.cedar_layout.specs.declared.decisions.Decision.{Decision}
use Rattle.cedar_layout.specs.Pieces.{Item, word, beside, below, SpacedItem, items_of}
use Rattle.cedar_layout.specs.Laid.{Separator, nothing, space, line, LaidItem, may_touch, Before, start, behind_word, behind_comment, then_behind, file_text}

-- a blank line before a line that begins is never written, kept, or always written
abbrev pub has_blank : BlankRule → Bool → Bool
has_blank Never blank = false
has_blank Kept blank = blank
has_blank Always blank = true

-- a layout sees the words and the comments, and nothing else
abbrev pub LayoutRule : Type 0
LayoutRule = List Item → List Decision

abbrev pub undecided : Decision
undecided = record { form = Apart; depth = 0; rule = Kept }

abbrev pub begun_line : Decision → Bool → Separator
begun_line d blank = line (has_blank d.rule blank) d.depth

abbrev pub between_words : Form → Bool → Separator → Separator
between_words Joined touching begun = cond touching nothing space
between_words Apart touching begun = space
between_words Broken touching begun = begun

-- what the decision becomes: words that may not touch stand apart, a comment stands on the line of
-- the word before it or begins one, and what follows a comment begins one
abbrev pub separate : Before → Decision → Bool → Item → Separator
separate start d blank item = nothing
separate (behind_word kind) d blank (word w) =
    between_words d.form (may_touch kind w) (begun_line d blank)
separate (behind_word kind) d blank (beside c) = space
separate (behind_word kind) d blank (below c) = begun_line d blank
separate behind_comment d blank item = begun_line d blank

abbrev pub laid_item : Before → Decision → SpacedItem → LaidItem
laid_item before d p =
    record { separator = separate before d p.blank p.item; item = p.item }

abbrev pub first_decision : List Decision → Decision
first_decision [] = undecided
first_decision (d ∷ ds) = d

abbrev pub rest_decisions : List Decision → List Decision
rest_decisions [] = []
rest_decisions (d ∷ ds) = ds

abbrev pub laid_items : Before → List Decision → List SpacedItem → List LaidItem
laid_items before ds [] = []
laid_items before ds (p ∷ ps) =
    laid_item before (first_decision ds) p
    ∷ laid_items (then_behind p.item) (rest_decisions ds) ps

abbrev pub laid_out : LayoutRule → List SpacedItem → List ℕ
laid_out layout ps = file_text (laid_items start (layout (items_of ps)) ps)
